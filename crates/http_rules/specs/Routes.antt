-- When bindings are one route: they have one HTTP method, and templates with equal segments and verbs, whatever their
-- variables are (google/api/http.proto, HttpRule).
use Rattle.std.specs.Prelude.{◌≡◌, ℕ, Bool, true, false, ◌&&◌, List, [], ◌∷◌, ◌++◌, Option, Some, None, find}
use Rattle.std.specs.List.{AllByRecursion}
use Rattle.std.specs.Str.{bytes_eq}
use Rattle.http_rules.specs.declared.template.Binding.{Binding}
use Rattle.http_rules.specs.declared.template.Segment.{Segment}
use Rattle.http_rules.specs.declared.template.Segment.TheVariants.{Literal, One, Rest}
use Rattle.http_rules.specs.declared.template.Template.{Template}
use Rattle.http_rules.specs.Template.{IsSameFlat, verb_text}
use Rattle.http_rules.specs.TemplateText.{slashed_segments}

-- two bindings are one route: they have one HTTP method, and templates that are one route
abbrev pub IsSameRoute : Binding → Binding → Type 0
IsSameRoute a b = (a.method ≡ b.method) × IsSameFlat a.template b.template

-- no two bindings are one route
abbrev pub AreRoutesApart : List Binding → Type 0
AreRoutesApart [] = Unit {0}
AreRoutesApart (b ∷ bs) = AllByRecursion (λ c. IsSameRoute b c → ⊥) bs × AreRoutesApart bs

-- two segments are equal: both `*`, both `**`, or literals that are equal byte for byte
abbrev pub is_same_segment : Segment → Segment → Bool
is_same_segment (Literal l) (Literal m) = bytes_eq l m
is_same_segment (Literal l) t = false
is_same_segment One One = true
is_same_segment One t = false
is_same_segment Rest Rest = true
is_same_segment Rest t = false

-- the segments of two templates are equal, one by one
abbrev pub are_same_segments : List Segment → List Segment → Bool
are_same_segments [] [] = true
are_same_segments [] (t ∷ ts) = false
are_same_segments (s ∷ ss) [] = false
are_same_segments (s ∷ ss) (t ∷ ts) = is_same_segment s t && are_same_segments ss ts

-- two verbs are equal, or both templates have none
abbrev pub is_same_verb : Option (List ℕ) → Option (List ℕ) → Bool
is_same_verb None None = true
is_same_verb None (Some m) = false
is_same_verb (Some l) None = false
is_same_verb (Some l) (Some m) = bytes_eq l m

-- two templates are one route, as a test
abbrev pub is_same_flat : Template → Template → Bool
is_same_flat a b = are_same_segments a.segments b.segments && is_same_verb a.verb b.verb

-- two bindings are one route, as a test
abbrev pub is_same_route : Binding → Binding → Bool
is_same_route a b = bytes_eq a.method b.method && is_same_flat a.template b.template

-- a binding behind the one that it repeats, if it repeats one
abbrev pub repeated : Option Binding → Binding → List (Binding × Binding)
repeated None b = []
repeated (Some a) b = (a, b) ∷ []

-- the bindings that are one route with an earlier one, each behind the earliest such one, where `before` stand in front
abbrev pub repeated_behind : List Binding → List Binding → List (Binding × Binding)
repeated_behind before [] = []
repeated_behind before (b ∷ bs) =
    repeated (find (λ a. is_same_route a b) before) b ++ repeated_behind (before ++ b ∷ []) bs

-- the bindings of a list that are one route with an earlier one, in order, each behind the earliest such one
abbrev pub repeated_routes : List Binding → List (Binding × Binding)
repeated_routes bs = repeated_behind [] bs

-- the text of a route: that of the segments and the verb, a space, and the method. No template that can be parsed has a
-- space, so two bindings have one text exactly where they are one route.
abbrev pub route_text : Binding → List ℕ
route_text b = (slashed_segments b.template.segments ++ verb_text b.template.verb) ++ 32 ∷ b.method
