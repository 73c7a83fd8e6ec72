-- The text that is printed of a template: each variable as `{path=segments}`.
use Rattle.std.specs.Prelude.{ℕ, ◌-◌, List, [], ◌∷◌, ◌++◌, map, take, drop}
use Rattle.std.specs.List.{flat_map}
use Rattle.http_rules.specs.declared.template.Segment.{Segment}
use Rattle.http_rules.specs.declared.template.Variable.{Variable}
use Rattle.http_rules.specs.declared.template.Template.{Template}
use Rattle.http_rules.specs.Template.{Part, segment, variable_of, segment_text, part_text, parts_text}

-- the parts of these segments, the first of which has this index, with these variables
abbrev pub printed_parts : ℕ → List Segment → List Variable → List Part
printed_parts n ss [] = map segment ss
printed_parts n ss (v ∷ vs) =
    map segment (take (v.from - n) ss)
    ++ variable_of v.path (take (v.to - v.from) (drop (v.from - n) ss)) ∷ printed_parts v.to (drop (v.to - n) ss) vs

-- what is printed of a template
abbrev pub template_text : Template → List ℕ
template_text t = parts_text (printed_parts 0 t.segments t.variables) t.verb

-- parts, each behind a slash
abbrev pub slashed_parts : List Part → List ℕ
slashed_parts parts = flat_map (λ p. 47 ∷ part_text p) parts

-- segments, each behind a slash
abbrev pub slashed_segments : List Segment → List ℕ
slashed_segments ss = flat_map (λ s. 47 ∷ segment_text s) ss

-- names, each behind a dot
abbrev pub dotted_names : List (List ℕ) → List ℕ
dotted_names names = flat_map (λ y. 46 ∷ y) names

-- what is printed up to the end of a variable, from the segment of this index on
abbrev pub text_through : List Segment → ℕ → Variable → List ℕ
text_through ss from v =
    slashed_segments (take (v.from - from) (drop from ss))
    ++ 47 ∷ part_text (variable_of v.path (take (v.to - v.from) (drop v.from ss)))
