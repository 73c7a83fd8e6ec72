-- Which of two templates stands first where both fit a path (AIP-127, google/api/http.proto).
-- The standards leave the choice among several to the server: the order below is this product's.
use Rattle.std.specs.Prelude.{◌≡◌, ◌<◌, ◌⊎◌, ℕ, List, [], ◌∷◌, ◌++◌, is_some, if◌then◌else◌}
use Rattle.http_rules.specs.declared.template.Segment.{Segment}
use Rattle.http_rules.specs.declared.template.Segment.TheVariants.{Literal, One, Rest}
use Rattle.http_rules.specs.declared.template.Template.{Template}

-- the place of a template by its verb: one with a verb, then one without
abbrev pub verb_rank : Template → ℕ
verb_rank t = if is_some t.verb then 0 else 1

-- the place of segments by the first of them: the end, then a literal, then `*`, then `**`
abbrev pub front_rank : List Segment → ℕ
front_rank [] = 0
front_rank (Literal l ∷ ss) = 1
front_rank (One ∷ ss) = 2
front_rank (Rest ∷ ss) = 3

-- segments stand before others: they begin alike, and at the first position at which they differ they have what
-- stands first
pub record StandBefore (first second : List Segment) : Type 0 where
  pub alike : List Segment
  pub more : List Segment
  pub others : List Segment
  pub first_is : first ≡ alike ++ more
  pub second_is : second ≡ alike ++ others
  pub differ : front_rank more < front_rank others

-- a template stands before another: by their verbs, and where these decide nothing by their segments
abbrev pub IsTemplateBefore : Template → Template → Type 0
IsTemplateBefore t u = (verb_rank t < verb_rank u) ⊎ ((verb_rank t ≡ verb_rank u) × StandBefore t.segments u.segments)
