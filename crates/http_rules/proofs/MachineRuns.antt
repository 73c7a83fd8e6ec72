-- What is in the grammar is read by the machine: a template is run through it, part by part.
use Rattle.std.proofs.Common.{◌≡◌, ℕ, ◌+◌, Bool, true, false, cond, eqb, List, [], ◌∷◌, ◌++◌, length, map, Option, Some, None, ◌⊎◌, inl, inr, ⊎_elim, refl, sym, ap, ◌∙◌, subst, append_assoc, length-append, eqb-true}
use Rattle.std.proofs.lemmas.List.{append-nil}
use Rattle.std.specs.Prelude.{◌||◌, option_map}
use Rattle.std.specs.List.{AllByRecursion, flat_map, list_any}
use Rattle.http_rules.specs.declared.template.Segment.{Segment}
use Rattle.http_rules.specs.declared.template.Segment.TheVariants.{Literal, One, Rest}
use Rattle.http_rules.specs.declared.template.Variable.{Variable}
use Rattle.http_rules.specs.declared.template.Template.{Template}
use Rattle.http_rules.specs.declared.state.Kind.TheVariants.{Letter, Digit, Dot, Equals, Mark}
use Rattle.http_rules.specs.declared.state.Class.{Class}
use Rattle.http_rules.specs.declared.state.Class.TheVariants as class
use Rattle.http_rules.specs.declared.state.Level.{Level}
use Rattle.http_rules.specs.declared.state.Level.TheVariants.{Outer, Inner}
use Rattle.http_rules.specs.declared.state.State.{State}
use Rattle.http_rules.specs.declared.state.State.TheVariants as state
use Rattle.http_rules.specs.declared.parts.Parts.{Parts}
use Rattle.http_rules.specs.Template.{is_letter, is_digit, literal_marks, is_literal_byte, begins_identifier, is_identifier_byte, IsLiteral, IsIdentifier, IsSegment, Part, segment, variable, variable_of, IsPart, joined, segment_text, part_text, verb_text, parts_text, part_segments, segments_of, variables_from, MayFollow, IsRestLast, IsVerb, IsTemplateText}
use Rattle.http_rules.specs.TemplateMachine.{kind_of, sign_of, class_of, turn, parts_of, kept, finish, run, read_template}
use Rattle.http_rules.proofs.PartLemmas.{made, taking}

-- the class of a byte

literal_class : (b : ℕ) → is_literal_byte b ≡ true → class_of b ≡ class.Literal (kind_of b)
literal_class b h = ap (λ t. cond t (class.Literal (kind_of b)) (sign_of b)) h

letter_literal : (b : ℕ) → begins_identifier b ≡ true → is_literal_byte b ≡ true
letter_literal b h = by_tests (is_letter b) (eqb b 95) refl refl h
  where
    by_tests : (x y : Bool) → is_letter b ≡ x → eqb b 95 ≡ y → x || y ≡ true → is_literal_byte b ≡ true
    by_tests true y e f g = ap (λ t. (t || is_digit b) || list_any (λ m. eqb b m) literal_marks) e
    by_tests false true e f g = let same : b ≡ 95 = eqb-true b 95 f in subst (λ n. is_literal_byte n ≡ true) (sym same) refl
    by_tests false false e f g = absurd (cc)

digit_literal : (b : ℕ) → is_digit b ≡ true → is_literal_byte b ≡ true
digit_literal b h = ap (λ t. (is_letter b || t) || list_any (λ m. eqb b m) literal_marks) h ∙ by_test (is_letter b) (list_any (λ m. eqb b m) literal_marks)
  where
    by_test : (x y : Bool) → (x || true) || y ≡ true
    by_test true y = refl
    by_test false y = refl

letter_class : (b : ℕ) → begins_identifier b ≡ true → class_of b ≡ class.Literal Letter
letter_class b h =
    literal_class b (letter_literal b h)
    ∙ ap (λ t. class.Literal (cond t Letter (cond (is_digit b) Digit (cond (eqb b 46) Dot (cond (eqb b 61) Equals Mark))))) h

digit_class : (b : ℕ) → begins_identifier b ≡ false → is_digit b ≡ true → class_of b ≡ class.Literal Digit
digit_class b n h =
    literal_class b (digit_literal b h)
    ∙ ap (λ t. class.Literal (cond t Letter (cond (is_digit b) Digit (cond (eqb b 46) Dot (cond (eqb b 61) Equals Mark))))) n
    ∙ ap (λ t. class.Literal (cond t Digit (cond (eqb b 46) Dot (cond (eqb b 61) Equals Mark)))) h

identifier_class : (b : ℕ) → is_identifier_byte b ≡ true → (class_of b ≡ class.Literal Letter) ⊎ (class_of b ≡ class.Literal Digit)
identifier_class b h = by_tests (begins_identifier b) (is_digit b) refl refl h
  where
    by_tests : (x y : Bool) → begins_identifier b ≡ x → is_digit b ≡ y → x || y ≡ true → (class_of b ≡ class.Literal Letter) ⊎ (class_of b ≡ class.Literal Digit)
    by_tests true y e f g = inl (letter_class b e)
    by_tests false true e f g = inr (digit_class b e f)
    by_tests false false e f g = absurd (cc)

-- one step
abbrev stepped : State → Parts → ℕ → List ℕ → Class → Option Template
stepped p m b s c = run (option_map (λ x. x.0) (turn p c)) (kept (turn p c) b m) s

by_class : (p : State) (m : Parts) (b : ℕ) (s : List ℕ) (c : Class) → class_of b ≡ c → run (Some p) m (b ∷ s) ≡ stepped p m b s c
by_class p m b s c e = ap (stepped p m b s) e

-- words

literal_run : (l : Level) (bs : List ℕ) (segs : List Segment) (vars : List Variable) (w : List ℕ) (path : List (List ℕ)) (from : ℕ) (s : List ℕ) → AllByRecursion (λ c. is_literal_byte c ≡ true) bs
    → run (Some (state.Literal l)) (parts_of segs vars w path from) (bs ++ s) ≡ run (Some (state.Literal l)) (parts_of segs vars (w ++ bs) path from) s
literal_run l [] segs vars w path from s h = ap (λ x. run (Some (state.Literal l)) (parts_of segs vars x path from) s) (sym (append-nil w))
literal_run l (b ∷ bs) segs vars w path from s h =
    by_class (state.Literal l) (parts_of segs vars w path from) b (bs ++ s) (class.Literal (kind_of b)) (literal_class b h.0)
    ∙ literal_run l bs segs vars (w ++ b ∷ []) path from s h.1
    ∙ ap (λ x. run (Some (state.Literal l)) (parts_of segs vars x path from) s) (append_assoc w (b ∷ []) bs)

verb_more : (bs : List ℕ) (segs : List Segment) (vars : List Variable) (w : List ℕ) (path : List (List ℕ)) (from : ℕ) → AllByRecursion (λ c. is_literal_byte c ≡ true) bs
    → run (Some state.Verb) (parts_of segs vars w path from) bs ≡ Some (record { segments = segs; variables = vars; verb = Some (w ++ bs) })
verb_more [] segs vars w path from h = ap (λ x. run (Some state.Verb) (parts_of segs vars x path from) []) (sym (append-nil w))
verb_more (b ∷ bs) segs vars w path from h =
    by_class state.Verb (parts_of segs vars w path from) b bs (class.Literal (kind_of b)) (literal_class b h.0)
    ∙ verb_more bs segs vars (w ++ b ∷ []) path from h.1
    ∙ ap (λ x. run (Some state.Verb) (parts_of segs vars x path from) []) (append_assoc w (b ∷ []) bs)

verb_run : (l : List ℕ) (segs : List Segment) (vars : List Variable) (path : List (List ℕ)) (from : ℕ) → IsLiteral l
    → run (Some state.Colon) (parts_of segs vars [] path from) l ≡ Some (record { segments = segs; variables = vars; verb = Some l })
verb_run [] segs vars path from h = absurd h
verb_run (b ∷ bs) segs vars path from h =
    by_class state.Colon (parts_of segs vars [] path from) b bs (class.Literal (kind_of b)) (literal_class b h.0)
    ∙ verb_more bs segs vars (b ∷ []) path from h.1

identifier_more : (bs : List ℕ) (segs : List Segment) (vars : List Variable) (w : List ℕ) (path : List (List ℕ)) (from : ℕ) (s : List ℕ) → AllByRecursion (λ c. is_identifier_byte c ≡ true) bs
    → run (Some state.Path) (parts_of segs vars w path from) (bs ++ s) ≡ run (Some state.Path) (parts_of segs vars (w ++ bs) path from) s
identifier_more [] segs vars w path from s h = ap (λ x. run (Some state.Path) (parts_of segs vars x path from) s) (sym (append-nil w))
identifier_more (b ∷ bs) segs vars w path from s h =
    ⊎_elim (λ e. by_class state.Path (parts_of segs vars w path from) b (bs ++ s) (class.Literal Letter) e) (λ e. by_class state.Path (parts_of segs vars w path from) b (bs ++ s) (class.Literal Digit) e) (identifier_class b h.0)
    ∙ identifier_more bs segs vars (w ++ b ∷ []) path from s h.1
    ∙ ap (λ x. run (Some state.Path) (parts_of segs vars x path from) s) (append_assoc w (b ∷ []) bs)

identifier_run : (n : List ℕ) (segs : List Segment) (vars : List Variable) (path : List (List ℕ)) (from : ℕ) (s : List ℕ) → IsIdentifier n
    → run (Some state.Name) (parts_of segs vars [] path from) (n ++ s) ≡ run (Some state.Path) (parts_of segs vars n path from) s
identifier_run [] segs vars path from s h = absurd h
identifier_run (b ∷ bs) segs vars path from s h =
    by_class state.Name (parts_of segs vars [] path from) b (bs ++ s) (class.Literal Letter) (letter_class b h.0)
    ∙ identifier_more bs segs vars (b ∷ []) path from s h.1

-- a field path leaves its last name as the word
record PathRun (segs : List Segment) (vars : List Variable) (done names : List (List ℕ)) (from : ℕ) : Type 0 where
  word : List ℕ
  path : List (List ℕ)
  whole : path ++ word ∷ [] ≡ done ++ names
  runs : (s : List ℕ) → run (Some state.Name) (parts_of segs vars [] done from) (joined 46 names ++ s) ≡ run (Some state.Path) (parts_of segs vars word path from) s

path_run : (n : List ℕ) (ns : List (List ℕ)) (segs : List Segment) (vars : List Variable) (done : List (List ℕ)) (from : ℕ) → IsIdentifier n → AllByRecursion IsIdentifier ns → PathRun segs vars done (n ∷ ns) from
path_run n [] segs vars done from h a = record {
  word = n;
  path = done;
  whole = refl;
  runs = λ s. ap (λ x. run (Some state.Name) (parts_of segs vars [] done from) (x ++ s)) (append-nil n) ∙ identifier_run n segs vars done from s h;
}
path_run n (x ∷ xs) segs vars done from h a =
    let r = path_run x xs segs vars (done ++ n ∷ []) from a.0 a.1 in
    record {
      word = r.word;
      path = r.path;
      whole = r.whole ∙ append_assoc done (n ∷ []) (x ∷ xs);
      runs = λ s.
          ap (run (Some state.Name) (parts_of segs vars [] done from)) (append_assoc n (46 ∷ joined 46 (x ∷ xs)) s)
          ∙ identifier_run n segs vars done from (46 ∷ (joined 46 (x ∷ xs) ++ s)) h
          ∙ r.runs s;
    }

-- segments

-- the state behind the bytes of a segment
abbrev state_in : Level → Segment → State
state_in l (Literal w) = state.Literal l
state_in l One = state.Star l
state_in l Rest = state.Stars l

-- the word that a segment leaves
abbrev word_of : Segment → List ℕ
word_of (Literal w) = w
word_of One = []
word_of Rest = []

-- the state behind the brace that follows a segment
abbrev closed_by : Segment → State
closed_by (Literal w) = state.Closed
closed_by One = state.Closed
closed_by Rest = state.ClosedRest

segment_run : (l : Level) (x : Segment) (segs : List Segment) (vars : List Variable) (path : List (List ℕ)) (from : ℕ) (s : List ℕ) → IsSegment x
    → run (Some (state.Segment l)) (parts_of segs vars [] path from) (segment_text x ++ s) ≡ run (Some (state_in l x)) (parts_of segs vars (word_of x) path from) s
segment_run l (Literal []) segs vars path from s h = absurd h
segment_run l (Literal (b ∷ bs)) segs vars path from s h =
    by_class (state.Segment l) (parts_of segs vars [] path from) b (bs ++ s) (class.Literal (kind_of b)) (literal_class b h.0)
    ∙ literal_run l bs segs vars (b ∷ []) path from s h.1
segment_run l One segs vars path from s h = refl
segment_run l Rest segs vars path from s h = refl

slash_run : (l : Level) (x y : Segment) (ys : List Segment) (segs : List Segment) (vars : List Variable) (path : List (List ℕ)) (from : ℕ) (s : List ℕ) → MayFollow x (y ∷ ys)
    → run (Some (state_in l x)) (parts_of segs vars (word_of x) path from) (47 ∷ s) ≡ run (Some (state.Segment l)) (parts_of (segs ++ x ∷ []) vars [] path from) s
slash_run Outer (Literal w) y ys segs vars path from s h = refl
slash_run Inner (Literal w) y ys segs vars path from s h = refl
slash_run Outer One y ys segs vars path from s h = refl
slash_run Inner One y ys segs vars path from s h = refl
slash_run l Rest y ys segs vars path from s h = absurd (cc)

colon_run : (x : Segment) (segs : List Segment) (vars : List Variable) (path : List (List ℕ)) (from : ℕ) (s : List ℕ)
    → run (Some (state_in Outer x)) (parts_of segs vars (word_of x) path from) (58 ∷ s) ≡ run (Some state.Colon) (parts_of (segs ++ x ∷ []) vars [] path from) s
colon_run (Literal w) segs vars path from s = refl
colon_run One segs vars path from s = refl
colon_run Rest segs vars path from s = refl

end_run : (x : Segment) (segs : List Segment) (vars : List Variable) (path : List (List ℕ)) (from : ℕ)
    → finish (state_in Outer x) (parts_of segs vars (word_of x) path from) ≡ Some (record { segments = segs ++ x ∷ []; variables = vars; verb = None })
end_run (Literal w) segs vars path from = refl
end_run One segs vars path from = refl
end_run Rest segs vars path from = refl

close_run : (x : Segment) (segs : List Segment) (vars : List Variable) (path : List (List ℕ)) (from : ℕ) (s : List ℕ)
    → run (Some (state_in Inner x)) (parts_of segs vars (word_of x) path from) (125 ∷ s)
    ≡ run (Some (closed_by x)) (parts_of (segs ++ x ∷ []) (vars ++ taking path from (length (segs ++ x ∷ [])) ∷ []) [] [] from) s
close_run (Literal w) segs vars path from s = refl
close_run One segs vars path from s = refl
close_run Rest segs vars path from s = refl

-- the last of segments
abbrev last_of : Segment → List Segment → Segment
last_of x [] = x
last_of x (y ∷ ys) = last_of y ys

inner_run : (x : Segment) (ss : List Segment) (segs : List Segment) (vars : List Variable) (path : List (List ℕ)) (from : ℕ) (s : List ℕ) → IsSegment x → AllByRecursion IsSegment ss → IsRestLast (x ∷ ss)
    → run (Some (state.Segment Inner)) (parts_of segs vars [] path from) (joined 47 (map segment_text (x ∷ ss)) ++ 125 ∷ s)
    ≡ run (Some (closed_by (last_of x ss))) (parts_of (segs ++ x ∷ ss) (vars ++ taking path from (length (segs ++ x ∷ ss)) ∷ []) [] [] from) s
inner_run x [] segs vars path from s h a r =
    ap (λ t. run (Some (state.Segment Inner)) (parts_of segs vars [] path from) (t ++ 125 ∷ s)) (append-nil (segment_text x))
    ∙ segment_run Inner x segs vars path from (125 ∷ s) h
    ∙ close_run x segs vars path from s
inner_run x (y ∷ ys) segs vars path from s h a r =
    ap (run (Some (state.Segment Inner)) (parts_of segs vars [] path from)) (append_assoc (segment_text x) (47 ∷ joined 47 (map segment_text (y ∷ ys))) (125 ∷ s))
    ∙ segment_run Inner x segs vars path from (47 ∷ (joined 47 (map segment_text (y ∷ ys)) ++ 125 ∷ s)) h
    ∙ slash_run Inner x y ys segs vars path from (joined 47 (map segment_text (y ∷ ys)) ++ 125 ∷ s) r.0
    ∙ inner_run y ys (segs ++ x ∷ []) vars path from s a.0 a.1 r.1
    ∙ ap (λ z. run (Some (closed_by (last_of y ys))) (parts_of z (vars ++ taking path from (length z) ∷ []) [] [] from) s) (append_assoc segs (x ∷ []) (y ∷ ys))

-- parts

-- the state behind a part with these segments and variables, of which x is the last segment
record Reached (segs : List Segment) (vars : List Variable) (x : Segment) (p : State) (m : Parts) : Type 0 where
  slash : (y : Segment) (ys : List Segment) → MayFollow x (y ∷ ys) → (s : List ℕ) → run (Some p) m (47 ∷ s) ≡ run (Some (state.Segment Outer)) (parts_of segs vars [] [] m.from) s
  colon : (s : List ℕ) → run (Some p) m (58 ∷ s) ≡ run (Some state.Colon) (parts_of segs vars [] [] m.from) s
  ends : finish p m ≡ Some (record { segments = segs; variables = vars; verb = None })

closed_reached : (x : Segment) (segs : List Segment) (vars : List Variable) (from : ℕ) → Reached segs vars x (closed_by x) (parts_of segs vars [] [] from)
closed_reached (Literal w) segs vars from = record { slash = λ y ys h s. refl; colon = λ s. refl; ends = refl }
closed_reached One segs vars from = record { slash = λ y ys h s. refl; colon = λ s. refl; ends = refl }
closed_reached Rest segs vars from = record { slash = λ y ys h s. absurd (cc); colon = λ s. refl; ends = refl }

-- the last segment of a part
abbrev last_segment : Part → Segment
last_segment (segment x) = x
last_segment (variable path) = One
last_segment (variable_of path []) = One
last_segment (variable_of path (x ∷ ss)) = last_of x ss

-- a part is run through: the state and the parts behind it
record PartRun (q : Part) (segs : List Segment) (vars : List Variable) (from : ℕ) : Type 0 where
  at : State
  parts : Parts
  runs : (s : List ℕ) → run (Some (state.Segment Outer)) (parts_of segs vars [] [] from) (part_text q ++ s) ≡ run (Some at) parts s
  reached : Reached (segs ++ part_segments q) (vars ++ variables_from (length segs) (q ∷ [])) (last_segment q) at parts

part_run : (q : Part) (segs : List Segment) (vars : List Variable) (from : ℕ) → IsPart q → IsRestLast (part_segments q) → PartRun q segs vars from
part_run (segment x) segs vars from h r = record {
  at = state_in Outer x;
  parts = parts_of segs vars (word_of x) [] from;
  runs = λ s. segment_run Outer x segs vars [] from s h;
  reached = subst (λ v. Reached (segs ++ x ∷ []) v x (state_in Outer x) (parts_of segs vars (word_of x) [] from)) (sym (append-nil vars)) (record {
    slash = λ y ys may s. slash_run Outer x y ys segs vars [] from s may;
    colon = λ s. colon_run x segs vars [] from s;
    ends = end_run x segs vars [] from;
  });
}
part_run (variable []) segs vars from h r = absurd h
part_run (variable (n ∷ ns)) segs vars from h r =
    let p = path_run n ns segs vars [] from h.0 h.1 in
    let one : length (segs ++ One ∷ []) ≡ length segs + 1 = length-append segs (One ∷ []) in
    let vars_are : vars ++ taking (p.path ++ p.word ∷ []) (length segs) (length (segs ++ One ∷ [])) ∷ [] ≡ vars ++ taking (n ∷ ns) (length segs) (length segs + 1) ∷ [] =
    ap (λ x. vars ++ taking x (length segs) (length (segs ++ One ∷ [])) ∷ []) p.whole ∙ ap (λ k. vars ++ taking (n ∷ ns) (length segs) k ∷ []) one in
    record {
      at = state.Closed;
      parts = parts_of (segs ++ One ∷ []) (vars ++ taking (n ∷ ns) (length segs) (length segs + 1) ∷ []) [] [] (length segs);
      runs = λ s.
          ap (run (Some state.Name) (parts_of segs vars [] [] from)) (append_assoc (joined 46 (n ∷ ns)) (125 ∷ []) s)
          ∙ p.runs (125 ∷ s)
          ∙ ap (λ v. run (Some state.Closed) (parts_of (segs ++ One ∷ []) v [] [] (length segs)) s) vars_are;
      reached = closed_reached One (segs ++ One ∷ []) (vars ++ taking (n ∷ ns) (length segs) (length segs + 1) ∷ []) (length segs);
    }
part_run (variable_of [] ss) segs vars from h r = absurd h.0
part_run (variable_of (n ∷ ns) []) segs vars from h r = absurd h.1
part_run (variable_of (n ∷ ns) (x ∷ ss)) segs vars from h r =
    let p = path_run n ns segs vars [] from h.0.0 h.0.1 in
    let inner = joined 47 (map segment_text (x ∷ ss)) in
    let all = segs ++ x ∷ ss in
    let count : length (segs ++ x ∷ ss) ≡ length segs + length (x ∷ ss) = length-append segs (x ∷ ss) in
    record {
      at = closed_by (last_of x ss);
      parts = parts_of (segs ++ x ∷ ss) (vars ++ taking (n ∷ ns) (length segs) (length segs + length (x ∷ ss)) ∷ []) [] [] (length segs);
      runs = λ s.
          ap (run (Some state.Name) (parts_of segs vars [] [] from)) (append_assoc (joined 46 (n ∷ ns)) (61 ∷ (inner ++ 125 ∷ [])) s ∙ ap (λ l. joined 46 (n ∷ ns) ++ 61 ∷ l) (append_assoc inner (125 ∷ []) s))
          ∙ p.runs (61 ∷ (inner ++ 125 ∷ s))
          ∙ ap (λ z. run (Some (state.Segment Inner)) (parts_of segs vars [] z (length segs)) (inner ++ 125 ∷ s)) p.whole
          ∙ inner_run x ss segs vars (n ∷ ns) (length segs) s h.1.0 h.1.1 r
          ∙ ap (λ k. run (Some (closed_by (last_of x ss))) (parts_of (segs ++ x ∷ ss) (vars ++ taking (n ∷ ns) (length segs) k ∷ []) [] [] (length segs)) s) count;
      reached = closed_reached (last_of x ss) (segs ++ x ∷ ss) (vars ++ taking (n ∷ ns) (length segs) (length segs + length (x ∷ ss)) ∷ []) (length segs);
    }

-- where `**` stands

may_front : (x : Segment) (xs ys : List Segment) → MayFollow x (xs ++ ys) → MayFollow x xs
may_front (Literal w) xs ys h = tt
may_front One xs ys h = tt
may_front Rest [] ys h = refl
may_front Rest (z ∷ zs) ys h = absurd (cc)

rest_front : (xs ys : List Segment) → IsRestLast (xs ++ ys) → IsRestLast xs
rest_front [] ys h = tt
rest_front (x ∷ xs) ys h = (may_front x xs ys h.0, rest_front xs ys h.1)

rest_back : (xs ys : List Segment) → IsRestLast (xs ++ ys) → IsRestLast ys
rest_back [] ys h = h
rest_back (x ∷ xs) ys h = rest_back xs ys h.1

last_may : (x : Segment) (xs ys : List Segment) → IsRestLast (x ∷ (xs ++ ys)) → MayFollow (last_of x xs) ys
last_may x [] ys h = h.0
last_may x (z ∷ zs) ys h = last_may z zs ys h.1

part_may : (q : Part) (ys : List Segment) → IsPart q → IsRestLast (part_segments q ++ ys) → MayFollow (last_segment q) ys
part_may (segment x) ys h r = r.0
part_may (variable path) ys h r = r.0
part_may (variable_of path []) ys h r = absurd h.1
part_may (variable_of path (x ∷ ss)) ys h r = last_may x ss ys r

-- a part has a first segment
some_may : (q : Part) (x : Segment) (ys : List Segment) → IsPart q → MayFollow x (part_segments q ++ ys) → (z : Segment) × (zs : List Segment) × MayFollow x (z ∷ zs)
some_may (segment z) x ys h m = (z, ys, m)
some_may (variable path) x ys h m = (One, ys, m)
some_may (variable_of path []) x ys h m = absurd h.1
some_may (variable_of path (z ∷ zs)) x ys h m = (z, zs ++ ys, m)

variables_then : (n : ℕ) (q : Part) (qs : List Part) → variables_from n (q ∷ qs) ≡ variables_from n (q ∷ []) ++ variables_from (n + length (part_segments q)) qs
variables_then n (segment x) qs = refl
variables_then n (variable path) qs = refl
variables_then n (variable_of path ss) qs = refl

verb_reached : (verb : Option (List ℕ)) (segs : List Segment) (vars : List Variable) (x : Segment) (p : State) (m : Parts) → IsVerb verb → Reached segs vars x p m → run (Some p) m (verb_text verb) ≡ Some (made segs vars verb)
verb_reached None segs vars x p m h r = r.ends
verb_reached (Some l) segs vars x p m h r = r.colon l ∙ verb_run l segs vars [] m.from h

all_run : (q : Part) (qs : List Part) (verb : Option (List ℕ)) (segs : List Segment) (vars : List Variable) (from : ℕ) → AllByRecursion IsPart (q ∷ qs) → IsRestLast (segments_of (q ∷ qs)) → IsVerb verb
    → run (Some (state.Segment Outer)) (parts_of segs vars [] [] from) (part_text q ++ parts_text qs verb) ≡ Some (made (segs ++ segments_of (q ∷ qs)) (vars ++ variables_from (length segs) (q ∷ qs)) verb)
all_run q [] verb segs vars from each rest is =
    let r = part_run q segs vars from each.0 (rest_front (part_segments q) [] rest) in
    r.runs (verb_text verb)
    ∙ verb_reached verb (segs ++ part_segments q) (vars ++ variables_from (length segs) (q ∷ [])) (last_segment q) r.at r.parts is r.reached
    ∙ ap (λ z. Some (made (segs ++ z) (vars ++ variables_from (length segs) (q ∷ [])) verb)) (sym (append-nil (part_segments q)))
all_run q (u ∷ us) verb segs vars from each rest is =
    let r = part_run q segs vars from each.0 (rest_front (part_segments q) (segments_of (u ∷ us)) rest) in
    let may = some_may u (last_segment q) (segments_of us) each.1.0 (part_may q (segments_of (u ∷ us)) each.0 rest) in
    let segs' = segs ++ part_segments q in
    let vars' = vars ++ variables_from (length segs) (q ∷ []) in
    let count : length (segs ++ part_segments q) ≡ length segs + length (part_segments q) = length-append segs (part_segments q) in
    let vars_are : vars' ++ variables_from (length segs') (u ∷ us) ≡ vars ++ variables_from (length segs) (q ∷ u ∷ us) =
    ap (λ n. vars' ++ variables_from n (u ∷ us)) count
    ∙ append_assoc vars (variables_from (length segs) (q ∷ [])) (variables_from (length segs + length (part_segments q)) (u ∷ us))
    ∙ ap (λ z. vars ++ z) (sym (variables_then (length segs) q (u ∷ us))) in
    r.runs (parts_text (u ∷ us) verb)
    ∙ ap (λ z. run (Some r.at) r.parts (47 ∷ z)) (append_assoc (part_text u) (flat_map (λ p. 47 ∷ part_text p) us) (verb_text verb))
    ∙ r.reached.slash may.0 may.1 may.2 (part_text u ++ parts_text us verb)
    ∙ all_run u us verb segs' vars' r.parts.from each.1 (rest_back (part_segments q) (segments_of (u ∷ us)) rest) is
    ∙ ap (λ z. Some (made z (vars' ++ variables_from (length segs') (u ∷ us)) verb)) (append_assoc segs (part_segments q) (segments_of (u ∷ us)))
    ∙ ap (λ z. Some (made (segs ++ segments_of (q ∷ u ∷ us)) z verb)) vars_are

-- a text that is a template is read, and means what is read
pub template_is_read : (s : List ℕ) (t : Template) → IsTemplateText s t → read_template s ≡ Some t
template_is_read s t h =
    ap read_template (h.written ∙ ap (λ z. 47 ∷ z) (append_assoc (part_text h.first) (flat_map (λ p. 47 ∷ part_text p) h.more) (verb_text t.verb)))
    ∙ all_run h.first h.more t.verb [] [] 0 h.each h.rest_last h.verb
    ∙ ap Some (sym h.means)
