-- What a class says of a byte, how words grow, and what may stand before parts that follow.
use Rattle.std.proofs.Common.{◌≡◌, ℕ, ◌+◌, Bool, true, false, cond, eqb, List, [], ◌∷◌, ◌++◌, length, map, Option, refl, sym, ap, ◌∙◌, subst, arith, append_assoc, length-append, eqb-true}
use Rattle.std.proofs.lemmas.List.{append-nil}
use Rattle.std.specs.Prelude.{⊤, ◌||◌}
use Rattle.std.specs.List.{AllByRecursion, flat_map}
use Rattle.base.proofs.EachLemmas.{each_joined}
use Rattle.http_rules.specs.declared.template.Segment.{Segment}
use Rattle.http_rules.specs.declared.template.Segment.TheVariants.{Literal, One, Rest}
use Rattle.http_rules.specs.declared.template.Variable.{Variable}
use Rattle.http_rules.specs.declared.template.Template.{Template}
use Rattle.http_rules.specs.declared.state.Kind.{Kind}
use Rattle.http_rules.specs.declared.state.Kind.TheVariants.{Letter, Digit, Dot, Equals, Mark}
use Rattle.http_rules.specs.declared.state.Class.{Class}
use Rattle.http_rules.specs.declared.state.Class.TheVariants as class
use Rattle.http_rules.specs.Template.{is_digit, is_literal_byte, begins_identifier, is_identifier_byte, IsLiteral, IsIdentifier, IsFieldPath, IsSegment, AreSegments, Part, segment, variable, variable_of, IsPart, joined, segment_text, part_text, verb_text, parts_text, segments_of, variables_from, MayFollow, IsRestLast, IsVerb}
use Rattle.http_rules.specs.TemplateMachine.{kind_of, class_of}

-- what a class says of a byte

-- what holds of both of two cases holds of the one that a test picks
pub choice : {X : Type 0} (P : X → Type 0) (t : Bool) (x y : X) → (t ≡ true → P x) → (t ≡ false → P y) → P (cond t x y)
choice P true x y a b = a refl
choice P false x y a b = b refl

-- what the kind of a byte of a literal says of it
abbrev pub KindSays : Kind → ℕ → Type 0
KindSays Letter b = begins_identifier b ≡ true
KindSays Digit b = is_digit b ≡ true
KindSays Dot b = b ≡ 46
KindSays Equals b = b ≡ 61
KindSays Mark b = ⊤

-- what the class of a byte says of it
abbrev pub ClassSays : Class → ℕ → Type 0
ClassSays (class.Literal k) b = (is_literal_byte b ≡ true) × KindSays k b
ClassSays class.Slash b = b ≡ 47
ClassSays class.Star b = b ≡ 42
ClassSays class.Colon b = b ≡ 58
ClassSays class.Open b = b ≡ 123
ClassSays class.Close b = b ≡ 125
ClassSays class.Other b = ⊤

kind_says : (b : ℕ) → KindSays (kind_of b) b
kind_says b =
    choice (λ k. KindSays k b) (begins_identifier b) _ _ (λ h. h)
    (λ _. choice (λ k. KindSays k b) (is_digit b) _ _ (λ h. h)
    (λ _. choice (λ k. KindSays k b) (eqb b 46) _ _ (λ h. eqb-true b 46 h)
    (λ _. choice (λ k. KindSays k b) (eqb b 61) _ _ (λ h. eqb-true b 61 h) (λ _. tt))))

-- the class of a byte says what the byte is
pub class_says : (b : ℕ) → ClassSays (class_of b) b
class_says b =
    choice (λ c. ClassSays c b) (is_literal_byte b) _ _ (λ h. (h, kind_says b))
    (λ _. choice (λ c. ClassSays c b) (eqb b 47) _ _ (λ h. eqb-true b 47 h)
    (λ _. choice (λ c. ClassSays c b) (eqb b 42) _ _ (λ h. eqb-true b 42 h)
    (λ _. choice (λ c. ClassSays c b) (eqb b 58) _ _ (λ h. eqb-true b 58 h)
    (λ _. choice (λ c. ClassSays c b) (eqb b 123) _ _ (λ h. eqb-true b 123 h)
    (λ _. choice (λ c. ClassSays c b) (eqb b 125) _ _ (λ h. eqb-true b 125 h) (λ _. tt))))))

-- words

-- a literal with one more of its bytes is a literal
pub literal_push : (w : List ℕ) (b : ℕ) → IsLiteral w → is_literal_byte b ≡ true → IsLiteral (w ++ b ∷ [])
literal_push [] b h p = absurd h
literal_push (c ∷ w) b h p = (h.0, each_joined _ w (b ∷ []) h.1 (p, tt))

-- an identifier with one more of its bytes is an identifier
pub identifier_push : (w : List ℕ) (b : ℕ) → IsIdentifier w → is_identifier_byte b ≡ true → IsIdentifier (w ++ b ∷ [])
identifier_push [] b h p = absurd h
identifier_push (c ∷ w) b h p = (h.0, each_joined _ w (b ∷ []) h.1 (p, tt))

-- identifiers with one more are a field path
pub field_path_push : (xs : List (List ℕ)) (y : List ℕ) → AllByRecursion IsIdentifier xs → IsIdentifier y → IsFieldPath (xs ++ y ∷ [])
field_path_push [] y a p = (p, tt)
field_path_push (x ∷ xs) y a p = (a.0, each_joined _ xs (y ∷ []) a.1 (p, tt))

field_path_all : (xs : List (List ℕ)) → IsFieldPath xs → AllByRecursion IsIdentifier xs
field_path_all [] h = absurd h
field_path_all (x ∷ xs) h = h

-- what begins an identifier may stand within it
pub letter_goes_on : (b : ℕ) → begins_identifier b ≡ true → is_identifier_byte b ≡ true
letter_goes_on b h = by_test (begins_identifier b) (is_digit b) h
  where
    by_test : (x y : Bool) → x ≡ true → x || y ≡ true
    by_test true y e = refl
    by_test false y e = absurd (cc)

-- a digit may stand within an identifier
pub digit_goes_on : (b : ℕ) → is_digit b ≡ true → is_identifier_byte b ≡ true
digit_goes_on b h = by_test (begins_identifier b) (is_digit b) h
  where
    by_test : (x y : Bool) → y ≡ true → x || y ≡ true
    by_test true y e = refl
    by_test false y e = e

-- a byte behind a word stands before what follows
pub push_then : (w : List ℕ) (b : ℕ) (s : List ℕ) → (w ++ b ∷ []) ++ s ≡ w ++ b ∷ s
push_then w b s = append_assoc w (b ∷ []) s

-- a byte behind no word stands before what follows
pub first_then : (w : List ℕ) (b : ℕ) (s : List ℕ) → w ≡ [] → (w ++ b ∷ []) ++ s ≡ b ∷ s
first_then w b s e = push_then w b s ∙ ap (λ x. x ++ b ∷ s) e

-- names, each before its dot
abbrev pub dotted : List (List ℕ) → List ℕ
dotted [] = []
dotted (x ∷ xs) = x ++ 46 ∷ dotted xs

-- one more name, before its dot
pub dotted_push : (xs : List (List ℕ)) (y s : List ℕ) → dotted (xs ++ y ∷ []) ++ s ≡ dotted xs ++ (y ++ 46 ∷ s)
dotted_push [] y s = append_assoc y (46 ∷ []) s
dotted_push (x ∷ xs) y s =
    append_assoc x (46 ∷ dotted (xs ++ y ∷ [])) s ∙ ap (λ l. x ++ 46 ∷ l) (dotted_push xs y s) ∙ sym (append_assoc x (46 ∷ dotted xs) (y ++ 46 ∷ s))

dots_push : (xs : List (List ℕ)) (y s : List ℕ) → flat_map (λ z. 46 ∷ z) (xs ++ y ∷ []) ++ s ≡ 46 ∷ (dotted xs ++ (y ++ s))
dots_push [] y s = ap (λ l. 46 ∷ (l ++ s)) (append-nil y)
dots_push (x ∷ xs) y s =
    ap (λ l. 46 ∷ l) (append_assoc x (flat_map (λ z. 46 ∷ z) (xs ++ y ∷ [])) s ∙ ap (λ l. x ++ l) (dots_push xs y s) ∙ sym (append_assoc x (46 ∷ dotted xs) (y ++ s)))

-- one more name behind others, with dots between them
pub joined_push : (xs : List (List ℕ)) (y s : List ℕ) → joined 46 (xs ++ y ∷ []) ++ s ≡ dotted xs ++ (y ++ s)
joined_push [] y s = ap (λ l. l ++ s) (append-nil y)
joined_push (x ∷ xs) y s =
    append_assoc x (flat_map (λ z. 46 ∷ z) (xs ++ y ∷ [])) s ∙ ap (λ l. x ++ l) (dots_push xs y s) ∙ sym (append_assoc x (46 ∷ dotted xs) (y ++ s))

-- what follows

-- behind a segment, outside braces: parts and a verb
pub record Follows (x : Segment) (segs : List Segment) (vars : List Variable) (s : List ℕ) (t : Template) : Type 0 where
  pub parts : List Part
  pub each : AllByRecursion IsPart parts
  pub last : IsRestLast (x ∷ segments_of parts)
  pub verb : IsVerb t.verb
  pub text : s ≡ parts_text parts t.verb
  pub segments : t.segments ≡ segs ++ segments_of parts
  pub variables : t.variables ≡ vars ++ variables_from (length segs) parts

-- the template of segments, variables and a verb
abbrev pub made : List Segment → List Variable → Option (List ℕ) → Template
made ss vs verb = record { segments = ss; variables = vs; verb = verb }

-- a variable of this path, from one segment to another
abbrev pub taking : List (List ℕ) → ℕ → ℕ → Variable
taking path from to = record { path = path; from = from; to = to }

-- behind a segment within braces: segments, the brace, parts and a verb
pub record FollowsInner (x : Segment) (segs : List Segment) (vars : List Variable) (path : List (List ℕ)) (from : ℕ) (s : List ℕ) (t : Template) : Type 0 where
  pub more : List Segment
  pub parts : List Part
  pub each_more : AllByRecursion IsSegment more
  pub each : AllByRecursion IsPart parts
  pub last : IsRestLast (x ∷ (more ++ segments_of parts))
  pub verb : IsVerb t.verb
  pub text : s ≡ flat_map (λ y. 47 ∷ segment_text y) more ++ 125 ∷ parts_text parts t.verb
  pub segments : t.segments ≡ segs ++ (more ++ segments_of parts)
  pub variables : t.variables ≡ vars ++ taking path from (length segs + length more) ∷ variables_from (length segs + length more) parts

-- no segment may follow any segment
pub nothing_follows : (x : Segment) (ss : List Segment) → ss ≡ [] → MayFollow x ss
nothing_follows (Literal l) ss e = tt
nothing_follows One ss e = tt
nothing_follows Rest ss e = e

-- another segment may stand before the same
pub before : (x y : Segment) (segs : List Segment) (vars : List Variable) (s : List ℕ) (t : Template) → ((ss : List Segment) → MayFollow x ss → MayFollow y ss) → Follows x segs vars s t → Follows y segs vars s t
before x y segs vars s t may h = record { parts = h.parts; each = h.each; last = (may _ h.last.0, h.last.1); verb = h.verb; text = h.text; segments = h.segments; variables = h.variables }

-- another segment may stand before the same, within braces
pub before_inner : (x y : Segment) (segs : List Segment) (vars : List Variable) (path : List (List ℕ)) (from : ℕ) (s : List ℕ) (t : Template) → ((ss : List Segment) → MayFollow x ss → MayFollow y ss) → FollowsInner x segs vars path from s t → FollowsInner y segs vars path from s t
before_inner x y segs vars path from s t may h = record { more = h.more; parts = h.parts; each_more = h.each_more; each = h.each; last = (may _ h.last.0, h.last.1); verb = h.verb; text = h.text; segments = h.segments; variables = h.variables }

-- a text is at its end
pub ends : (x : Segment) (segs : List Segment) (vars : List Variable) (verb : Option (List ℕ)) (t : Template) → IsVerb verb → record { segments = segs; variables = vars; verb = verb } ≡ t → Follows x segs vars (verb_text verb) t
ends x segs vars verb t is e = record {
  parts = [];
  each = tt;
  last = (nothing_follows x [] refl, tt);
  verb = subst IsVerb (ap (λ (u : Template). u.verb) e) is;
  text = ap verb_text (ap (λ (u : Template). u.verb) e);
  segments = sym (ap (λ (u : Template). u.segments) e) ∙ sym (append-nil segs);
  variables = sym (ap (λ (u : Template). u.variables) e) ∙ sym (append-nil vars);
}

length_push : {X : Type 0} (xs : List X) (y : X) → length (xs ++ y ∷ []) ≡ length xs + 1
length_push xs y = length-append xs (y ∷ [])

-- a segment in front
pub segment_back : (x : Segment) (segs : List Segment) (vars : List Variable) (s : List ℕ) (t : Template) → IsSegment x → Follows x (segs ++ x ∷ []) vars s t → Follows One segs vars (47 ∷ (segment_text x ++ s)) t
segment_back x segs vars s t is h = record {
  parts = segment x ∷ h.parts;
  each = (is, h.each);
  last = (tt, h.last);
  verb = h.verb;
  text = ap (λ l. 47 ∷ l) (ap (λ l. segment_text x ++ l) h.text ∙ sym (append_assoc (segment_text x) (flat_map (λ p. 47 ∷ part_text p) h.parts) (verb_text t.verb)));
  segments = h.segments ∙ append_assoc segs (x ∷ []) (segments_of h.parts);
  variables = h.variables ∙ ap (λ n. vars ++ variables_from n h.parts) (length_push segs x);
}

-- a segment in front, within braces
pub inner_back : (x : Segment) (segs : List Segment) (vars : List Variable) (path : List (List ℕ)) (from : ℕ) (s : List ℕ) (t : Template) → IsSegment x → FollowsInner x (segs ++ x ∷ []) vars path from s t → FollowsInner One segs vars path from (47 ∷ (segment_text x ++ s)) t
inner_back x segs vars path from s t is h =
    let count : length (segs ++ x ∷ []) + length h.more ≡ length segs + length (x ∷ h.more) = omega (arith, length_push segs x) in
    record {
      more = x ∷ h.more;
      parts = h.parts;
      each_more = (is, h.each_more);
      each = h.each;
      last = (tt, h.last);
      verb = h.verb;
      text = ap (λ l. 47 ∷ l) (ap (λ l. segment_text x ++ l) h.text ∙ sym (append_assoc (segment_text x) (flat_map (λ y. 47 ∷ segment_text y) h.more) (125 ∷ parts_text h.parts t.verb)));
      segments = h.segments ∙ append_assoc segs (x ∷ []) (h.more ++ segments_of h.parts);
      variables = h.variables ∙ ap (λ n. vars ++ taking path from n ∷ variables_from n h.parts) count;
    }

-- the brace in front
pub close_back : (x : Segment) (segs : List Segment) (vars : List Variable) (path : List (List ℕ)) (from : ℕ) (s : List ℕ) (t : Template) → Follows x segs (vars ++ taking path from (length segs) ∷ []) s t → FollowsInner x segs vars path from (125 ∷ s) t
close_back x segs vars path from s t h =
    let count : length segs ≡ length segs + 0 = omega arith in
    record {
      more = [];
      parts = h.parts;
      each_more = tt;
      each = h.each;
      last = h.last;
      verb = h.verb;
      text = ap (λ l. 125 ∷ l) h.text;
      segments = h.segments;
      variables = h.variables ∙ append_assoc vars (taking path from (length segs) ∷ []) (variables_from (length segs) h.parts) ∙ ap (λ n. vars ++ taking path from n ∷ variables_from n h.parts) count;
    }

-- the bytes behind the first
abbrev pub behind : List ℕ → List ℕ
behind [] = []
behind (b ∷ s) = s

-- the first byte, or 0
abbrev pub first_byte : List ℕ → ℕ
first_byte [] = 0
first_byte (b ∷ s) = b

-- each segment behind a slash is the text of each behind a slash
pub slashed_texts : (zs : List Segment) → flat_map (λ z. 47 ∷ segment_text z) zs ≡ flat_map (λ z. 47 ∷ z) (map segment_text zs)
slashed_texts [] = refl
slashed_texts (z ∷ zs) = ap (λ l. 47 ∷ (segment_text z ++ l)) (slashed_texts zs)

-- the segments of braces, put behind the field path
range_text : (more : List Segment) (rest s : List ℕ) → 47 ∷ s ≡ flat_map (λ y. 47 ∷ segment_text y) more ++ 125 ∷ rest → AllByRecursion IsSegment more → AreSegments more × (s ≡ joined 47 (map segment_text more) ++ 125 ∷ rest)
range_text [] rest s e a = let same : 47 ≡ 125 = ap first_byte e in absurd (omega (arith, same))
range_text (y ∷ ys) rest s e a = (a, ap behind e ∙ ap (λ l. (segment_text y ++ l) ++ 125 ∷ rest) (slashed_texts ys))

-- a variable with its segments in front
pub open_back : (segs : List Segment) (vars : List Variable) (path : List (List ℕ)) (s : List ℕ) (t : Template) → IsFieldPath path → FollowsInner One segs vars path (length segs) (47 ∷ s) t → Follows One segs vars (47 ∷ 123 ∷ (joined 46 path ++ 61 ∷ s)) t
open_back segs vars path s t is h =
    let r = range_text h.more (parts_text h.parts t.verb) s h.text h.each_more in
    let inner = joined 47 (map segment_text h.more) in
    let after_it = flat_map (λ p. 47 ∷ part_text p) h.parts in
    let shown : joined 46 path ++ 61 ∷ s ≡ (joined 46 path ++ 61 ∷ (inner ++ 125 ∷ [])) ++ parts_text h.parts t.verb =
    ap (λ l. joined 46 path ++ 61 ∷ l) (r.1 ∙ sym (append_assoc inner (125 ∷ []) (parts_text h.parts t.verb)))
    ∙ sym (append_assoc (joined 46 path) (61 ∷ (inner ++ 125 ∷ [])) (parts_text h.parts t.verb)) in
    record {
      parts = variable_of path h.more ∷ h.parts;
      each = ((is, r.0), h.each);
      last = h.last;
      verb = h.verb;
      text = ap (λ l. 47 ∷ 123 ∷ l) (shown ∙ sym (append_assoc (joined 46 path ++ 61 ∷ (inner ++ 125 ∷ [])) after_it (verb_text t.verb)));
      segments = h.segments;
      variables = h.variables;
    }

-- a variable without segments in front
pub bare_back : (segs : List Segment) (vars : List Variable) (path : List (List ℕ)) (s : List ℕ) (t : Template) → IsFieldPath path → Follows One (segs ++ One ∷ []) (vars ++ taking path (length segs) (length (segs ++ One ∷ [])) ∷ []) s t → Follows One segs vars (47 ∷ 123 ∷ (joined 46 path ++ 125 ∷ s)) t
bare_back segs vars path s t is h =
    let after_it = flat_map (λ p. 47 ∷ part_text p) h.parts in
    let shown : joined 46 path ++ 125 ∷ s ≡ (joined 46 path ++ 125 ∷ []) ++ parts_text h.parts t.verb =
    ap (λ l. joined 46 path ++ 125 ∷ l) h.text ∙ sym (append_assoc (joined 46 path) (125 ∷ []) (parts_text h.parts t.verb)) in
    record {
      parts = variable path ∷ h.parts;
      each = (is, h.each);
      last = (tt, h.last);
      verb = h.verb;
      text = ap (λ l. 47 ∷ 123 ∷ l) (shown ∙ sym (append_assoc (joined 46 path ++ 125 ∷ []) after_it (verb_text t.verb)));
      segments = h.segments ∙ append_assoc segs (One ∷ []) (segments_of h.parts);
      variables = h.variables ∙ append_assoc vars (taking path (length segs) (length (segs ++ One ∷ [])) ∷ []) (variables_from (length (segs ++ One ∷ [])) h.parts)
          ∙ ap (λ n. vars ++ taking path (length segs) n ∷ variables_from n h.parts) (length_push segs One);
    }
