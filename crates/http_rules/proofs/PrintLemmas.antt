-- What is printed of a template means the same template.
use Rattle.std.proofs.Common.{◌≡◌, ◌<◌, ◌≤◌, ℕ, suc, ◌+◌, ◌-◌, List, [], ◌∷◌, ◌++◌, length, map, take, drop, get_or, refl, sym, ap, ◌∙◌, subst, arith, append_assoc, drop-cons}
use Rattle.std.proofs.lemmas.List.{take_at, drop_at, take_rest, drop-drop, drop_all}
use Rattle.std.proofs.lemmas.List.Concat.{flat_map-append}
use Rattle.std.specs.List.{AllByRecursion}
use Rattle.http_rules.specs.declared.template.Segment.{Segment}
use Rattle.http_rules.specs.declared.template.Segment.TheVariants.{One}
use Rattle.http_rules.specs.declared.template.Variable.{Variable}
use Rattle.http_rules.specs.declared.template.Template.{Template}
use Rattle.http_rules.specs.Template.{Part, segment, variable, variable_of, IsPart, segments_of, variables_from, variable_at, joined, segment_text, part_text, parts_text, IsRestLast, IsTemplateText, IsTemplate, AreRanges}
use Rattle.http_rules.specs.TemplateText.{printed_parts, template_text, slashed_parts, slashed_segments, text_through}
use Rattle.http_rules.proofs.RangeLemmas.{ranges_from, above}
use Rattle.http_rules.proofs.PartLemmas.{made, slashed_texts}

-- a part with its segments spelled out
abbrev spelled_out : Part → Part
spelled_out (segment s) = segment s
spelled_out (variable path) = variable_of path (One ∷ [])
spelled_out (variable_of path ss) = variable_of path ss

take_less : {X : Type 0} (n k : ℕ) (x : X) (xs : List X) → n + 1 ≤ k → take (k - n) (x ∷ xs) ≡ x ∷ take (k - (n + 1)) xs
take_less n k x xs h = let e : k - n ≡ suc (k - (n + 1)) = omega arith in ap (λ i. take i (x ∷ xs)) e

drop_less : {X : Type 0} (n k : ℕ) (x : X) (xs : List X) → n + 1 ≤ k → drop (k - n) (x ∷ xs) ≡ drop (k - (n + 1)) xs
drop_less n k x xs h = let e : k - n ≡ suc (k - (n + 1)) = omega arith in ap (λ i. drop i (x ∷ xs)) e

-- a segment before the first variable is printed as it is
printed_segment : (n : ℕ) (s : Segment) (ss : List Segment) (vs : List Variable) (high : ℕ) → AreRanges (n + 1) vs high → printed_parts n (s ∷ ss) vs ≡ segment s ∷ printed_parts (n + 1) ss vs
printed_segment n s ss [] high h = refl
printed_segment n s ss (v ∷ vs) high h =
    let from : n + 1 ≤ v.from = h.0 in
    let to : n + 1 ≤ v.to = omega (arith, h.0, h.1) in
    ap (λ z. map segment z ++ variable_of v.path (take (v.to - v.from) (drop (v.from - n) (s ∷ ss))) ∷ printed_parts v.to (drop (v.to - n) (s ∷ ss)) vs) (take_less n v.from s ss from)
    ∙ ap (λ z. segment s ∷ (map segment (take (v.from - (n + 1)) ss) ++ variable_of v.path (take (v.to - v.from) z) ∷ printed_parts v.to (drop (v.to - n) (s ∷ ss)) vs)) (drop_less n v.from s ss from)
    ∙ ap (λ z. segment s ∷ (map segment (take (v.from - (n + 1)) ss) ++ variable_of v.path (take (v.to - v.from) (drop (v.from - (n + 1)) ss)) ∷ printed_parts v.to z vs)) (drop_less n v.to s ss to)

-- a variable is printed with its segments
printed_variable : (n : ℕ) (path : List (List ℕ)) (ss more : List Segment) (vs : List Variable) → printed_parts n (ss ++ more) (variable_at path n (length ss) ∷ vs) ≡ variable_of path ss ∷ printed_parts (n + length ss) more vs
printed_variable n path ss more vs =
    let none : n - n ≡ 0 = omega arith in
    let count : n + length ss - n ≡ length ss = omega arith in
    ap (λ i. map segment (take i (ss ++ more)) ++ variable_of path (take (n + length ss - n) (drop i (ss ++ more))) ∷ printed_parts (n + length ss) (drop (n + length ss - n) (ss ++ more)) vs) none
    ∙ ap (λ i. variable_of path (take i (ss ++ more)) ∷ printed_parts (n + length ss) (drop i (ss ++ more)) vs) count
    ∙ ap (λ z. variable_of path z ∷ printed_parts (n + length ss) (drop (length ss) (ss ++ more)) vs) (take_at ss more (length ss) refl)
    ∙ ap (λ z. variable_of path ss ∷ printed_parts (n + length ss) z vs) (drop_at ss more (length ss) refl)

-- the parts are found again from the segments and variables
printed_again : (n : ℕ) (ps : List Part) → AllByRecursion IsPart ps → printed_parts n (segments_of ps) (variables_from n ps) ≡ map spelled_out ps
printed_again n [] each = refl
printed_again n (segment s ∷ ps) each =
    printed_segment n s (segments_of ps) (variables_from (n + 1) ps) _ (ranges_from (n + 1) ps each.1) ∙ ap (λ z. segment s ∷ z) (printed_again (n + 1) ps each.1)
printed_again n (variable path ∷ ps) each =
    printed_variable n path (One ∷ []) (segments_of ps) (variables_from (n + 1) ps) ∙ ap (λ z. variable_of path (One ∷ []) ∷ z) (printed_again (n + 1) ps each.1)
printed_again n (variable_of path ss ∷ ps) each =
    printed_variable n path ss (segments_of ps) (variables_from (n + length ss) ps) ∙ ap (λ z. variable_of path ss ∷ z) (printed_again (n + length ss) ps each.1)

spelled_each : (ps : List Part) → AllByRecursion IsPart ps → AllByRecursion IsPart (map spelled_out ps)
spelled_each [] each = tt
spelled_each (segment s ∷ ps) each = (each.0, spelled_each ps each.1)
spelled_each (variable path ∷ ps) each = ((each.0, (tt, tt)), spelled_each ps each.1)
spelled_each (variable_of path ss ∷ ps) each = (each.0, spelled_each ps each.1)

spelled_segments : (ps : List Part) → segments_of (map spelled_out ps) ≡ segments_of ps
spelled_segments [] = refl
spelled_segments (segment s ∷ ps) = ap (λ z. s ∷ z) (spelled_segments ps)
spelled_segments (variable path ∷ ps) = ap (λ z. One ∷ z) (spelled_segments ps)
spelled_segments (variable_of path ss ∷ ps) = ap (λ z. ss ++ z) (spelled_segments ps)

spelled_variables : (n : ℕ) (ps : List Part) → variables_from n (map spelled_out ps) ≡ variables_from n ps
spelled_variables n [] = refl
spelled_variables n (segment s ∷ ps) = spelled_variables (n + 1) ps
spelled_variables n (variable path ∷ ps) = ap (λ z. variable_at path n 1 ∷ z) (spelled_variables (n + 1) ps)
spelled_variables n (variable_of path ss ∷ ps) = ap (λ z. variable_at path n (length ss) ∷ z) (spelled_variables (n + length ss) ps)

-- what is printed of a template means the same template
pub printed_means : (t : Template) → IsTemplate t → IsTemplateText (template_text t) t
printed_means t h =
    let ps = h.means.first ∷ h.means.more in
    let ss : t.segments ≡ segments_of ps = ap (λ (x : Template). x.segments) h.means.means in
    let vs : t.variables ≡ variables_from 0 ps = ap (λ (x : Template). x.variables) h.means.means in
    record {
      first = spelled_out h.means.first;
      more = map spelled_out h.means.more;
      each = spelled_each ps h.means.each;
      rest_last = subst IsRestLast (sym (spelled_segments ps)) h.means.rest_last;
      verb = h.means.verb;
      written = ap (λ z. parts_text (printed_parts 0 z t.variables) t.verb) ss
          ∙ ap (λ z. parts_text (printed_parts 0 (segments_of ps) z) t.verb) vs
          ∙ ap (λ z. parts_text z t.verb) (printed_again 0 ps h.means.each);
      means = ap (λ z. made z t.variables t.verb) (ss ∙ sym (spelled_segments ps)) ∙ ap (λ z. made (segments_of (map spelled_out ps)) z t.verb) (vs ∙ sym (spelled_variables 0 ps));
    }

-- the steps of printing

-- the first segment, and then each other behind a slash, are all with slashes between them
pub segments_put : (old mid new : List ℕ) (ss : List Segment) (x : Segment) → 1 ≤ length ss → x ≡ get_or ss 0 x → mid ≡ old ++ segment_text x → new ≡ mid ++ slashed_segments (take (length ss - 1) (drop 1 ss)) → new ≡ old ++ joined 47 (map segment_text ss)
segments_put old mid new [] x h e m n = absurd (omega (arith, h))
segments_put old mid new (y ∷ ys) x h e m n =
    n ∙ ap (λ z. mid ++ slashed_segments z) (take_rest (y ∷ ys) 1) ∙ ap (λ z. z ++ slashed_segments ys) m ∙ append_assoc old (segment_text x) (slashed_segments ys)
    ∙ ap (λ z. old ++ (segment_text z ++ slashed_segments ys)) e ∙ ap (λ z. old ++ (segment_text y ++ z)) (slashed_texts ys)

-- segments that stand alone are printed each behind a slash
pub slashed_as_parts : (ss : List Segment) → slashed_parts (map segment ss) ≡ slashed_segments ss
slashed_as_parts [] = refl
slashed_as_parts (s ∷ ss) = ap (λ z. 47 ∷ (segment_text s ++ z)) (slashed_as_parts ss)

drop_on : {X : Type 0} (m n : ℕ) (xs : List X) → m ≤ n → drop (n - m) (drop m xs) ≡ drop n xs
drop_on m n xs h = let e : m + (n - m) ≡ n = omega arith in drop-drop (n - m) m xs ∙ ap (λ k. drop k xs) e

-- the text of parts is that up to the next variable, and the text of the parts behind it
pub text_step : (ss : List Segment) (from : ℕ) (v : Variable) (vs : List Variable) (high : ℕ) → AreRanges from (v ∷ vs) high
    → slashed_parts (printed_parts from (drop from ss) (v ∷ vs)) ≡ text_through ss from v ++ slashed_parts (printed_parts v.to (drop v.to ss) vs)
text_step ss from v vs high r =
    let to : from ≤ v.to = omega (arith, r.0, r.1) in
    let front = take (v.from - from) (drop from ss) in
    let middle = variable_of v.path (take (v.to - v.from) (drop v.from ss)) in
    ap (λ z. slashed_parts (map segment front ++ variable_of v.path (take (v.to - v.from) z) ∷ printed_parts v.to (drop (v.to - from) (drop from ss)) vs)) (drop_on from v.from ss r.0)
    ∙ ap (λ z. slashed_parts (map segment front ++ middle ∷ printed_parts v.to z vs)) (drop_on from v.to ss to)
    ∙ flat_map-append (λ (p : Part). 47 ∷ part_text p) (map segment front) (middle ∷ printed_parts v.to (drop v.to ss) vs)
    ∙ ap (λ z. z ++ slashed_parts (middle ∷ printed_parts v.to (drop v.to ss) vs)) (slashed_as_parts front)
    ∙ sym (append_assoc (slashed_segments front) (47 ∷ part_text middle) (slashed_parts (printed_parts v.to (drop v.to ss) vs)))

-- the ranges from the next variable on
pub next_ranges : (vs : List Variable) (i : ℕ) (v : Variable) (from high : ℕ) → i < length vs → v ≡ get_or vs i v → AreRanges from (drop i vs) high → AreRanges from (v ∷ drop (i + 1) vs) high
next_ranges vs i v from high h e r =
    let next : suc i ≡ i + 1 = omega arith in
    subst (λ z. AreRanges from z high) (drop-cons vs i v h ∙ ap (λ z. z ∷ drop (suc i) vs) (sym e) ∙ ap (λ k. v ∷ drop k vs) next) r

-- the next variable ends within the segments
pub next_within : (vs : List Variable) (i : ℕ) (v : Variable) (from high : ℕ) → i < length vs → v ≡ get_or vs i v → AreRanges from (drop i vs) high → v.to ≤ high
next_within vs i v from high h e r = above v.to (drop (i + 1) vs) high (next_ranges vs i v from high h e r).2

-- what is put up to the next variable leaves the text of the parts behind it
pub next_put : (ss : List Segment) (vs : List Variable) (i : ℕ) (v : Variable) (from : ℕ) (mid new all : List ℕ) → i < length vs → v ≡ get_or vs i v → AreRanges from (drop i vs) (length ss)
    → mid ++ slashed_parts (printed_parts from (drop from ss) (drop i vs)) ≡ all → new ≡ mid ++ text_through ss from v → new ++ slashed_parts (printed_parts v.to (drop v.to ss) (drop (i + 1) vs)) ≡ all
next_put ss vs i v from mid new all h e r before put =
    let next : suc i ≡ i + 1 = omega arith in
    let these : drop i vs ≡ v ∷ drop (i + 1) vs = drop-cons vs i v h ∙ ap (λ z. z ∷ drop (suc i) vs) (sym e) ∙ ap (λ k. v ∷ drop k vs) next in
    ap (λ z. z ++ slashed_parts (printed_parts v.to (drop v.to ss) (drop (i + 1) vs))) put
    ∙ append_assoc mid (text_through ss from v) (slashed_parts (printed_parts v.to (drop v.to ss) (drop (i + 1) vs)))
    ∙ ap (λ z. mid ++ z) (sym (text_step ss from v (drop (i + 1) vs) (length ss) (next_ranges vs i v from (length ss) h e r)))
    ∙ ap (λ z. mid ++ slashed_parts (printed_parts from (drop from ss) z)) (sym these)
    ∙ before

-- with no variable left, the segments that are left end the text
pub last_put : (ss : List Segment) (vs : List Variable) (i from : ℕ) (mid all : List ℕ) → length vs ≤ i → mid ++ slashed_parts (printed_parts from (drop from ss) (drop i vs)) ≡ all → mid ++ slashed_segments (take (length ss - from) (drop from ss)) ≡ all
last_put ss vs i from mid all h before =
    ap (λ z. mid ++ slashed_segments z) (take_rest ss from)
    ∙ ap (λ z. mid ++ z) (sym (slashed_as_parts (drop from ss))) ∙ ap (λ z. mid ++ slashed_parts (printed_parts from (drop from ss) z)) (sym (drop_all i vs h)) ∙ before
