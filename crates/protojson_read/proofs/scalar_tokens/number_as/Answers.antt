use Rattle.std.proofs.Common.{◌∙◌, ap}
use Rattle.schema.specs.declared.value.Item.TheOpen.{Number}
use Rattle.scalar_texts.proofs.Theorems.{number_wide}
use Rattle.protojson_read.proofs.TokenLemmas.{digits_read}
use Rattle.protojson_read.proofs.scalar_tokens.number_as.Goals as goal

pub returns-in-Ok : goal.returns-in-Ok
returns-in-Ok c =
    let z = c.in-Ok.number in
    digits_read c.numbers_are_read_exactly.ensures.texts c.args.scalar c.args.text.now c.requires c.number_item.result z
    (c.number_item.ensures ∙ ap Number (number_wide c.args.scalar z c.in-Ok.ensures.1)) c.in-Ok.ensures
