use Rattle.std.proofs.Common.{◌≡◌, ◌≢◌, Bool, true, false, [], ◌∷◌, refl, ap, arith}
use Rattle.std.specs.Prelude.{◌^◌, pos, codes}
use lib.Utf8.{encode}
use Rattle.std.specs.Str.{is_utf8, chars, bytes_eq}
use Rattle.std.proofs.lemmas.Int.{ints}
use Rattle.std.proofs.lemmas.Str.{IsUtf8-from_is_utf8, is_utf8-from_IsUtf8}
use Rattle.json_meanings.specs.JsonScalars.{truth_text}
use Rattle.scalar_texts.proofs.examples.other_kind_examples.Goals as goal

no_capital : (b : Bool) → codes "True" ≢ truth_text b
no_capital true e = let x : false ≡ true = ap (λ s. bytes_eq s (codes "true")) e in absurd (cc)
no_capital false e = let x : false ≡ true = ap (λ s. bytes_eq s (codes "false")) e in absurd (cc)

no_digit : (b : Bool) → codes "1" ≢ truth_text b
no_digit true e = let x : false ≡ true = ap (λ s. bytes_eq s (codes "true")) e in absurd (cc)
no_digit false e = let x : false ≡ true = ap (λ s. bytes_eq s (codes "false")) e in absurd (cc)

pub returns : goal.returns
unfolding is_utf8 chars encode
returns c =
    let i = c.integer_examples.ensures in
    let o = c.other_examples.ensures in
    record {
      truth = (refl, tt);
      falsehood = (refl, tt);
      capital = no_capital;
      digit = no_digit;
      text = (refl, IsUtf8-from_is_utf8 (codes "1.5") refl);
      lone_byte = (refl, λ u. let x : false ≡ true = is_utf8-from_IsUtf8 (255 ∷ []) u in absurd (cc));
      name = (refl, (omega (arith, ints), omega (arith, ints)));
      name_that_looks_like_a_number = (refl, (omega (arith, ints), omega (arith, ints)));
      number = (i.with_a_point.0, (omega (arith, ints), omega (arith, ints)));
      no_value = (tt, λ z d. o.word d.number, o.word);
      fraction = (tt, o.one_and_a_half.1, λ k. o.one_and_a_half.0);
      past_int32 = (tt, (pos (2 ^ 31), i.past_32_bits.0, λ k. omega (arith, ints, k.1)));
    }
