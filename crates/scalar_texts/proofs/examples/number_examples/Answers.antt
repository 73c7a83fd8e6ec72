use Rattle.std.proofs.Common.{arith}
use Rattle.std.specs.Prelude.{◌^◌, pos, negsuc}
use Rattle.std.proofs.lemmas.Int.{ints}
use Rattle.message_types.specs.declared.fields.Scalar.TheVariants.{Uint64}
use Rattle.scalar_texts.proofs.Theorems.{number_told}
use Rattle.scalar_texts.proofs.examples.number_examples.Goals as goal

pub returns : goal.returns
returns c =
    let i = c.integer_examples.ensures in
    let o = c.other_examples.ensures in
    record {
      minus_zero = (i.minus_zero.0, (omega (arith, ints), omega (arith, ints)));
      larger = (i.larger.0, (omega (arith, ints), omega (arith, ints)));
      point_and_exponent = (i.point_and_exponent.0, (omega (arith, ints), omega (arith, ints)));
      least_of_int32 = (i.least_of_32_bits.0, (omega (arith, ints), omega (arith, ints)));
      past_int32 = (tt, (pos (2 ^ 31), i.past_32_bits.0, λ k. omega (arith, ints, k.1)));
      in_uint32 = (i.past_32_bits.0, (omega (arith, ints), omega (arith, ints)));
      below_uint32 = (tt, (negsuc 0, i.minus_one.0, λ k. omega (arith, ints, k.0)));
      greatest_of_uint64 = (i.greatest_of_64_bits.0, (omega (arith, ints), omega (arith, ints)));
      past_uint64 = (tt, (o.past.0, o.past.1, λ k. o.past.2 (number_told Uint64 o.past.0 k)));
      one_and_a_half = (tt, o.one_and_a_half.1, λ k. absurd k);
      half = (tt, o.half.1, λ k. absurd k);
      word = (tt, λ z d. o.word d.number, λ k. absurd k);
    }
