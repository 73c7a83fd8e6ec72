use Rattle.std.proofs.Common.{sym, subst}
use Rattle.message_types.specs.declared.fields.Scalar.{Scalar}
use Rattle.scalar_texts.specs.ScalarTexts.{IsScalarReading}
use Rattle.scalar_texts.proofs.reading.read_scalar.Goals as goal

pub returns-in-Bytes : goal.returns-in-Bytes
returns-in-Bytes c =
    subst (λ (s : Scalar). IsScalarReading c.args.types.now s c.args.text.now c.bytes_item.result) (sym c.in-Bytes.is)
    (c.bytes_item.ensures c.args.types.now)
