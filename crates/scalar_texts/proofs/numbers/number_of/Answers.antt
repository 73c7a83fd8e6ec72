use Rattle.std.proofs.Common.{◌≡◌, true, sym, subst}
use Rattle.std.specs.Prelude.{ℤ}
use Rattle.schema.specs.Validity.{IsScalarItem}
use Rattle.schema.specs.declared.value.Item.TheOpen.{Number}
use Rattle.scalar_texts.proofs.Theorems.{wide}
use Rattle.scalar_texts.proofs.numbers.number_of.Goals as goal

pub returns-else-has_number : goal.returns-else-has_number
returns-else-has_number c =
    let z = c.in-Integer.number in (
      z,
      c.in-Integer.ensures.0,
      λ k.
          let t : c.has_number.result ≡ true = c.has_number.ensures.1 (subst (λ (n : ℤ). IsScalarItem c.args.scalar (Number n)) (sym (wide z c.in-Integer.ensures.1)) k) in
          let f = c.if-has_number.false in
          absurd (cc),
    )
