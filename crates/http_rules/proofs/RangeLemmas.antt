-- The ranges of a template's variables.
use Rattle.std.proofs.Common.{◌≡◌, ◌<◌, ◌≤◌, ℕ, zero, suc, ◌+◌, List, [], ◌∷◌, length, sym, ap, subst, arith, length-append, get_or}
use Rattle.std.specs.List.{AllByRecursion}
use Rattle.http_rules.specs.declared.template.Segment.{Segment}
use Rattle.http_rules.specs.declared.template.Variable.{Variable}
use Rattle.http_rules.specs.declared.template.Template.{Template}
use Rattle.http_rules.specs.Template.{Part, segment, variable, variable_of, IsPart, AreSegments, segments_of, variables_from, IsTemplate, AreRanges}

lower : (low least : ℕ) (vs : List Variable) (high : ℕ) → least ≤ low → AreRanges low vs high → AreRanges least vs high
lower low least [] high h r = omega (arith, h, r)
lower low least (v ∷ vs) high h r = (omega (arith, h, r.0), r.1, r.2)

some_segments : (ss : List Segment) → AreSegments ss → 0 < length ss
some_segments [] h = absurd h
some_segments (s ∷ ss) h = omega arith

-- where ranges end is not below where they may begin
pub above : (low : ℕ) (vs : List Variable) (high : ℕ) → AreRanges low vs high → low ≤ high
above low [] high r = r
above low (v ∷ vs) high r = let h : v.to ≤ high = above v.to vs high r.2 in omega (arith, h, r.0, r.1)

-- the variables of parts have ranges within the segments of the parts
pub ranges_from : (n : ℕ) (parts : List Part) → AllByRecursion IsPart parts → AreRanges n (variables_from n parts) (n + length (segments_of parts))
ranges_from n [] each = omega arith
ranges_from n (segment s ∷ parts) each =
    let r = ranges_from (n + 1) parts each.1 in
    let e : n + 1 + length (segments_of parts) ≡ n + length (segments_of (segment s ∷ parts)) = omega arith in
    lower (n + 1) n (variables_from (n + 1) parts) _ (omega arith) (subst (AreRanges (n + 1) (variables_from (n + 1) parts)) e r)
ranges_from n (variable path ∷ parts) each =
    let r = ranges_from (n + 1) parts each.1 in
    let e : n + 1 + length (segments_of parts) ≡ n + length (segments_of (variable path ∷ parts)) = omega arith in
    (omega arith, omega arith, subst (AreRanges (n + 1) (variables_from (n + 1) parts)) e r)
ranges_from n (variable_of path ss ∷ parts) each =
    let r = ranges_from (n + length ss) parts each.1 in
    let e : n + length ss + length (segments_of parts) ≡ n + length (segments_of (variable_of path ss ∷ parts)) = omega (arith, length-append ss (segments_of parts)) in
    (omega arith, omega (arith, some_segments ss each.0.1), subst (AreRanges (n + length ss) (variables_from (n + length ss) parts)) e r)

-- the variables of a template have ranges within its segments
pub ranges_of : (t : Template) → IsTemplate t → AreRanges 0 t.variables (length t.segments)
ranges_of t h =
    let parts = h.means.first ∷ h.means.more in
    let vs : variables_from 0 parts ≡ t.variables = sym (ap (λ (x : Template). x.variables) h.means.means) in
    let ss : segments_of parts ≡ t.segments = sym (ap (λ (x : Template). x.segments) h.means.means) in
    let e : 0 + length (segments_of parts) ≡ length t.segments = omega (arith, ap length ss) in
    subst (λ x. AreRanges 0 x (length t.segments)) vs (subst (AreRanges 0 (variables_from 0 parts)) e (ranges_from 0 parts h.means.each))

-- each of these ranges has a segment, and ends within the bound
pub range_at : (low : ℕ) (vs : List Variable) (high : ℕ) → AreRanges low vs high → (i : ℕ) (d : Variable) → i < length vs → ((get_or vs i d).from < (get_or vs i d).to) × ((get_or vs i d).to ≤ high)
range_at low [] high r i d h = absurd (omega arith)
range_at low (w ∷ ws) high r zero d h = (r.1, above w.to ws high r.2)
range_at low (w ∷ ws) high r (suc i) d h = range_at w.to ws high r.2 i d (omega arith)

-- a variable of a template takes some of its segments
pub range_within : (t : Template) (i : ℕ) (d : Variable) → IsTemplate t → i < length t.variables → ((get_or t.variables i d).from < (get_or t.variables i d).to) × ((get_or t.variables i d).to ≤ length t.segments)
range_within t i d h within = range_at 0 t.variables (length t.segments) (ranges_of t h) i d within

-- the one variable of a template takes some of its segments
pub wildcard_range : (t : Template) (v : Variable) → IsTemplate t → t.variables ≡ v ∷ [] → (v.from < v.to) × (v.to ≤ length t.segments)
wildcard_range t v h e =
    let one : get_or t.variables 0 v ≡ v = ap (λ z. get_or z 0 v) e in
    let r = range_within t 0 v h (omega (arith, ap length e)) in
    subst (λ (w : Variable). (w.from < w.to) × (w.to ≤ length t.segments)) one r
