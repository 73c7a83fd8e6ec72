use mir.Syntax.{w128}
use Rattle.std.proofs.Common.{ap, ◌∙◌}
use Rattle.std.proofs.lemmas.Int.{to_z-of_z}
use Rattle.std.specs.Option.{option_copied}
use Rattle.field_index.specs.EnumMaps.{at_value, value_with}
use Rattle.field_index.proofs.indexed_enums.IndexedEnum.value_with.Goals as goal

pub returns : goal.returns
returns c =
    ap option_copied (c.copied.ensures ∙ c.get.ensures.value)
    ∙ ap (at_value c.self.inside.by_number) (to_z-of_z w128 c.args.number c.ranges.number)
    ∙ c.self.invariant.by_number c.args.number ∙ ap (λ vs. value_with vs c.args.number) c.self.view_is
