-- A template fits a path in one way, and its spans lie inside the path.
use Rattle.std.proofs.Common.{◌≡◌, ◌≢◌, ◌≤◌, ℕ, ◌+◌, ◌-◌, true, List, [], ◌∷◌, ◌++◌, length, map, take, drop, refl, sym, ap, ◌∙◌, subst, arith, append_assoc, length-append}
use Rattle.std.proofs.lemmas.List.{append-nil, append_cancel_right, take-append-drop, length-map}
use Rattle.std.proofs.lemmas.List.Concat.{flat_map-append}
use Rattle.std.specs.Prelude.{IsTrue}
use Rattle.std.specs.List.{AllByRecursion}
use Rattle.base.proofs.EachLemmas.{each_always, each_joined, each_mapped, each_weaker}
use Rattle.http_rules.specs.declared.template.Segment.{Segment}
use Rattle.http_rules.specs.declared.template.Segment.TheVariants.{Literal, One, Rest}
use Rattle.http_rules.specs.declared.template.Variable.{Variable}
use Rattle.http_rules.specs.declared.template.Template.{Template}
use Rattle.http_rules.specs.Template.{is_literal_byte, IsLiteral, IsSegment, AreSegments, Part, segment, variable, variable_of, IsPart, segments_of, MayFollow, IsRestLast, verb_text, IsTemplate, IsTemplateText}
use Rattle.http_rules.proofs.PartLemmas.{behind}
use Rattle.http_rules.specs.TemplateMatch.{slashed, IsPathSegment, Takes, EachTakes, shares, span_between, span_of, Matches, AreSpansOf}

-- no byte is a slash
abbrev pub NoSlash : List ℕ → Type 0
NoSlash s = AllByRecursion (λ b. b ≢ 47) s

-- bytes that may stand in a literal are no slashes
pub literal_no_slash : (l : List ℕ) → AllByRecursion (λ b. IsTrue (is_literal_byte b)) l → NoSlash l
literal_no_slash l h =
    each_weaker (λ b. IsTrue (is_literal_byte b)) (λ b. b ≢ 47)
    (λ b p e. let slash : is_literal_byte 47 ≡ true = subst (λ n. is_literal_byte n ≡ true) e p in absurd (cc (slash))) l h

-- each byte of a literal may stand in one
pub literal_all : (l : List ℕ) → IsLiteral l → AllByRecursion (λ b. IsTrue (is_literal_byte b)) l
literal_all [] h = absurd h
literal_all (b ∷ l) h = h

share_no_slash : (s : Segment) (x : List (List ℕ)) → IsSegment s → Takes s x → AllByRecursion NoSlash x
share_no_slash (Literal l) x is h = subst (AllByRecursion NoSlash) (sym h) (literal_no_slash l (literal_all l is), tt)
share_no_slash One x is h = subst (AllByRecursion NoSlash) (sym h.2) (h.1.1, tt)
share_no_slash Rest x is h = each_weaker IsPathSegment NoSlash (λ s p. p.1) x h

shares_no_slash : (ss : List Segment) (taken : List (List (List ℕ))) → AllByRecursion IsSegment ss → EachTakes ss taken → AllByRecursion NoSlash (shares taken)
shares_no_slash [] [] a h = tt
shares_no_slash [] (x ∷ xs) a h = absurd h
shares_no_slash (s ∷ ss) [] a h = absurd h
shares_no_slash (s ∷ ss) (x ∷ xs) a h = each_joined NoSlash x (shares xs) (share_no_slash s x a.0 h.0) (shares_no_slash ss xs a.1 h.1)

segments_all : (ss : List Segment) → AreSegments ss → AllByRecursion IsSegment ss
segments_all [] h = absurd h
segments_all (s ∷ ss) h = h

-- the segments of parts are literals and wildcards
pub parts_segments : (ps : List Part) → AllByRecursion IsPart ps → AllByRecursion IsSegment (segments_of ps)
parts_segments [] a = tt
parts_segments (segment s ∷ ps) a = (a.0, parts_segments ps a.1)
parts_segments (variable path ∷ ps) a = (tt, parts_segments ps a.1)
parts_segments (variable_of path ss ∷ ps) a = each_joined IsSegment ss (segments_of ps) (segments_all ss a.0.1) (parts_segments ps a.1)

-- the segments of a template are literals and wildcards
pub segments_lawful : (text : List ℕ) (t : Template) → IsTemplateText text t → AllByRecursion IsSegment t.segments
segments_lawful text t h =
    let parts = h.first ∷ h.more in
    let ss : segments_of parts ≡ t.segments = sym (ap (λ (x : Template). x.segments) h.means) in
    subst (AllByRecursion IsSegment) ss (parts_segments parts h.each)

-- segments end at their slashes

-- the first byte, or a slash
abbrev first_or_slash : List ℕ → ℕ
first_or_slash [] = 47
first_or_slash (b ∷ s) = b

starts : (ss : List (List ℕ)) → first_or_slash (slashed ss) ≡ 47
starts [] = refl
starts (s ∷ ss) = refl

word_split : (s t : List ℕ) (ss ts : List (List ℕ)) → NoSlash s → NoSlash t → s ++ slashed ss ≡ t ++ slashed ts → (s ≡ t) × (slashed ss ≡ slashed ts)
word_split [] [] ss ts a b e = (refl, e)
word_split [] (c ∷ t) ss ts a b e = absurd (b.0 (sym (ap first_or_slash e) ∙ starts ss))
word_split (c ∷ s) [] ss ts a b e = absurd (a.0 (ap first_or_slash e ∙ starts ts))
word_split (c ∷ s) (d ∷ t) ss ts a b e =
    let r = word_split s t ss ts a.1 b.1 (ap behind e) in
    let heads : c ≡ d = ap first_or_slash e in
    (ap (λ z. z ∷ s) heads ∙ ap (λ z. d ∷ z) r.0, r.1)

one_split : (ss ts : List (List ℕ)) → AllByRecursion NoSlash ss → AllByRecursion NoSlash ts → slashed ss ≡ slashed ts → ss ≡ ts
one_split [] [] a b e = refl
one_split [] (t ∷ ts) a b e = absurd (cc (e))
one_split (s ∷ ss) [] a b e = absurd (cc (e))
one_split (s ∷ ss) (t ∷ ts) a b e =
    let r = word_split s t ss ts a.0 b.0 (ap behind e) in
    ap (λ z. z ∷ ss) r.0 ∙ ap (λ z. t ∷ z) (one_split ss ts a.1 b.1 r.1)

-- the shares of segments are told by all that is taken

-- the texts behind the first
abbrev tail_of : List (List ℕ) → List (List ℕ)
tail_of [] = []
tail_of (x ∷ xs) = xs

-- the first text, or none
abbrev head_of : List (List ℕ) → List ℕ
head_of [] = []
head_of (x ∷ xs) = x

nothing_taken : (ss : List Segment) (xs : List (List (List ℕ))) → ss ≡ [] → EachTakes ss xs → xs ≡ []
nothing_taken [] [] e h = refl
nothing_taken [] (x ∷ xs) e h = absurd h
nothing_taken (s ∷ ss) xs e h = absurd (cc (e))

same_shares : (s : Segment) (ss : List Segment) (x y : List (List ℕ)) (xs ys : List (List (List ℕ))) → MayFollow s ss → Takes s x → Takes s y → EachTakes ss xs → EachTakes ss ys
    → x ++ shares xs ≡ y ++ shares ys → (x ≡ y) × (shares xs ≡ shares ys)
same_shares (Literal l) ss x y xs ys m a b c d e =
    let both : l ∷ shares xs ≡ l ∷ shares ys = sym (ap (λ z. z ++ shares xs) a) ∙ e ∙ ap (λ z. z ++ shares ys) b in
    (a ∙ sym b, ap tail_of both)
same_shares One ss x y xs ys m a b c d e =
    let both : a.0 ∷ shares xs ≡ b.0 ∷ shares ys = sym (ap (λ z. z ++ shares xs) a.2) ∙ e ∙ ap (λ z. z ++ shares ys) b.2 in
    (a.2 ∙ ap (λ z. z ∷ []) (ap head_of both) ∙ sym b.2, ap tail_of both)
same_shares Rest ss x y xs ys m a b c d e =
    let none : xs ≡ [] = nothing_taken ss xs m c in
    let none' : ys ≡ [] = nothing_taken ss ys m d in
    (sym (append-nil x) ∙ ap (λ z. x ++ shares z) (sym none) ∙ e ∙ ap (λ z. y ++ shares z) none' ∙ append-nil y, ap shares none ∙ sym (ap shares none'))

one_taking : (ss : List Segment) (a b : List (List (List ℕ))) → IsRestLast ss → EachTakes ss a → EachTakes ss b → shares a ≡ shares b → a ≡ b
one_taking [] [] [] r h k e = refl
one_taking [] (x ∷ xs) b r h k e = absurd h
one_taking [] [] (y ∷ ys) r h k e = absurd k
one_taking (s ∷ ss) [] b r h k e = absurd h
one_taking (s ∷ ss) (x ∷ xs) [] r h k e = absurd k
one_taking (s ∷ ss) (x ∷ xs) (y ∷ ys) r h k e =
    let p = same_shares s ss x y xs ys r.0 h.0 k.0 h.1 k.1 e in
    ap (λ z. z ∷ xs) p.0 ∙ ap (λ z. y ∷ z) (one_taking ss xs ys r.1 h.1 k.1 p.1)

-- a template fits a path with one list of spans
pub one_fit : (t : Template) (path : List ℕ) (a b : List (ℕ × ℕ)) → IsTemplate t → Matches t path a → Matches t path b → a ≡ b
one_fit t path a b is m n =
    let parts = is.means.first ∷ is.means.more in
    let ss : segments_of parts ≡ t.segments = sym (ap (λ (x : Template). x.segments) is.means.means) in
    let all = segments_lawful is.text t is.means in
    let rest = subst IsRestLast ss is.means.rest_last in
    let texts : slashed (shares m.taken) ≡ slashed (shares n.taken) = append_cancel_right (slashed (shares m.taken)) (slashed (shares n.taken)) (verb_text t.verb) (sym m.written ∙ n.written) in
    let same = one_split (shares m.taken) (shares n.taken) (shares_no_slash t.segments m.taken all m.each) (shares_no_slash t.segments n.taken all n.each) texts in
    let taken = one_taking t.segments m.taken n.taken rest m.each n.each same in
    m.spans_are ∙ ap (λ z. map (span_of z) t.variables) taken ∙ sym n.spans_are

-- spans lie inside the path

slashed_append : (ss ts : List (List ℕ)) → length (slashed (ss ++ ts)) ≡ length (slashed ss) + length (slashed ts)
slashed_append ss ts = ap length (flat_map-append (λ (s : List ℕ). 47 ∷ s) ss ts) ∙ length-append (slashed ss) (slashed ts)

shares_append : (xs ys : List (List (List ℕ))) → shares (xs ++ ys) ≡ shares xs ++ shares ys
shares_append xs ys = flat_map-append (λ (x : List (List ℕ)). x) xs ys

shares_cut : (k n : ℕ) (taken : List (List (List ℕ))) → shares taken ≡ (shares (take k taken) ++ shares (take n (drop k taken))) ++ shares (drop n (drop k taken))
shares_cut k n taken =
    ap shares (sym (take-append-drop k taken)) ∙ shares_append (take k taken) (drop k taken)
    ∙ ap (λ z. shares (take k taken) ++ shares z) (sym (take-append-drop n (drop k taken)))
    ∙ ap (λ z. shares (take k taken) ++ z) (shares_append (take n (drop k taken)) (drop n (drop k taken)))
    ∙ sym (append_assoc (shares (take k taken)) (shares (take n (drop k taken))) (shares (drop n (drop k taken))))

-- a span goes from an offset to one that is not below it and within the bound
abbrev IsInside : ℕ → ℕ × ℕ → Type 0
IsInside end span = (span.0 ≤ span.1) × (span.1 ≤ end)

between_inside : (before own rest all : List (List ℕ)) → all ≡ (before ++ own) ++ rest → IsInside (length (slashed all)) (span_between before own (length (slashed all)))
between_inside before [] rest all e = (omega arith, omega arith)
between_inside before (s ∷ ss) rest all e =
    let own : length (slashed (before ++ s ∷ ss)) ≡ length (slashed before) + length (slashed (s ∷ ss)) = slashed_append before (s ∷ ss) in
    let some : 1 ≤ length (slashed (s ∷ ss)) = omega arith in
    let whole : length (slashed all) ≡ length (slashed (before ++ s ∷ ss)) + length (slashed rest) = ap (λ z. length (slashed z)) e ∙ slashed_append (before ++ s ∷ ss) rest in
    (omega (arith, own, some), omega (arith, whole))

span_inside : (taken : List (List (List ℕ))) (v : Variable) → IsInside (length (slashed (shares taken))) (span_of taken v)
span_inside taken v =
    between_inside (shares (take v.from taken)) (shares (take (v.to - v.from) (drop v.from taken))) (shares (drop (v.to - v.from) (drop v.from taken))) (shares taken) (shares_cut v.from (v.to - v.from) taken)

longer : (low high : ℕ) (span : ℕ × ℕ) → low ≤ high → IsInside low span → IsInside high span
longer low high span h i = (i.0, omega (arith, h, i.1))

all_inside : (taken : List (List (List ℕ))) (end : ℕ) → length (slashed (shares taken)) ≤ end → (vs : List Variable) → AllByRecursion (IsInside end) (map (span_of taken) vs)
all_inside taken end h vs =
    each_mapped (span_of taken) (IsInside end) vs
    (each_always (λ v. IsInside end (span_of taken v)) (λ v. longer (length (slashed (shares taken))) end (span_of taken v) h (span_inside taken v)) vs)

-- one span for each variable, inside the path
pub spans_inside : (t : Template) (path : List ℕ) (spans : List (ℕ × ℕ)) → Matches t path spans → AreSpansOf t path spans
spans_inside t path spans m =
    let whole : length path ≡ length (slashed (shares m.taken)) + length (verb_text t.verb) = ap length m.written ∙ length-append (slashed (shares m.taken)) (verb_text t.verb) in
    record {
      each = ap length m.spans_are ∙ length-map t.variables (span_of m.taken);
      inside = subst (AllByRecursion (IsInside (length path))) (sym m.spans_are) (all_inside m.taken (length path) (omega (arith, whole)) t.variables);
    }
