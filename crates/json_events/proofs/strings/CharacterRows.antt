-- The encoding of each character that stands for itself is in the table of well-formed byte sequences (the
-- Unicode Standard, table 3-7).
use Rattle.std.proofs.Common.{◌≡◌, ℕ, ◌+◌, ◌*◌, ◌/◌, ◌%◌, ◌<◌, ◌≤◌, ◌⊎◌, true, false, eqb, [], ◌∷◌, inl, inr, ⊎_elim, refl, sym, ap, subst, arith}
use Rattle.std.specs.Char.{encode_utf8}
use Rattle.std.proofs.Math.Utf8.{scalar_cases}
use Rattle.std.proofs.lemmas.Bool.{cases_lt, ne_eqb}
use Rattle.std.proofs.lemmas.Bool.Decides.{nat_tests}
use Rattle.std.proofs.lemmas.Str.{encode_ascii}
use Rattle.json_events.specs.JsonStrings.{IsUnescaped}
use Rattle.json_events.specs.StringSteps.{within, is_plain, led, lead}
use Rattle.json_events.proofs.strings.Utf8Bytes.{IsRaw, two, three, four}
use Rattle.json_events.specs.HeldWords.{IsTail}

in_ends : (low high b : ℕ) → low ≤ b → b ≤ high → within low high b ≡ true
in_ends low high b h l = grind (arith, nat_tests)

plain_from : (b : ℕ) → 32 ≤ b → b < 128 → eqb b 34 ≡ false → eqb b 92 ≡ false → is_plain b ≡ true
plain_from b h l m n = grind (arith, nat_tests)

lead_two : (b : ℕ) → 194 ≤ b → b ≤ 223 → lead b ≡ led 128 191 0
lead_two b h l = grind (arith, nat_tests)

lead_three : (b : ℕ) → 225 ≤ b → b ≤ 239 → eqb b 237 ≡ false → lead b ≡ led 128 191 1
lead_three b h l n = grind (arith, nat_tests)

lead_four : (b : ℕ) → 241 ≤ b → b ≤ 243 → lead b ≡ led 128 191 2
lead_four b h l = grind (arith, nat_tests)

-- a byte from a last six bits
tail_byte : (i : ℕ) → i < 64 → within 128 191 (128 + i) ≡ true
tail_byte i h = in_ends 128 191 (128 + i) (omega arith) (omega (arith, h))

raw_two : (k i : ℕ) → 2 ≤ k → k < 32 → i < 64 → IsRaw ((192 + k) ∷ (128 + i) ∷ [])
raw_two k i h l m = inr (record { low = 128; high = 191; left = 0 }, lead_two (192 + k) (omega (arith, h)) (omega (arith, l)), (128 + i, refl, tail_byte i m))

raw_three : (k i j : ℕ) → k < 16 → i < 64 → j < 64 → 2048 ≤ k * 4096 + i * 64 + j → (k * 4096 + i * 64 + j < 55296) ⊎ (57344 ≤ k * 4096 + i * 64 + j) → IsRaw ((224 + k) ∷ (128 + i) ∷ (128 + j) ∷ [])
raw_three k i j h l m least gap = ⊎_elim
    (λ (e : k < 1). let z : k ≡ 0 = omega (arith, e) in
    inr (record { low = 160; high = 191; left = 1 }, ap (λ x. lead (224 + x)) z, (128 + i, (128 + j) ∷ [], refl, in_ends 160 191 (128 + i) (omega (arith, z, least, m)) (omega (arith, l)), (128 + j, refl, tail_byte j m))))
    (λ (e : 1 ≤ k). ⊎_elim
    (λ (f : k < 13). usual e (omega (arith, f)) (λ x. omega (arith, x, f)))
    (λ (f : 13 ≤ k). ⊎_elim
    (λ (g : k < 14). let z : k ≡ 13 = omega (arith, f, g) in
    inr (record { low = 128; high = 159; left = 1 }, ap (λ x. lead (224 + x)) z, (128 + i, (128 + j) ∷ [], refl, in_ends 128 159 (128 + i) (omega arith) (below z), (128 + j, refl, tail_byte j m))))
    (λ (g : 14 ≤ k). usual e h (λ x. omega (arith, x, g)))
    (cases_lt k 14))
    (cases_lt k 13))
    (cases_lt k 1)
  where
    usual : 1 ≤ k → k < 16 → (224 + k ≡ 237 → ⊥) → IsRaw ((224 + k) ∷ (128 + i) ∷ (128 + j) ∷ [])
    usual e f n = inr (record { low = 128; high = 191; left = 1 }, lead_three (224 + k) (omega (arith, e)) (omega (arith, f)) (ne_eqb (224 + k) 237 n), (128 + i, (128 + j) ∷ [], refl, tail_byte i l, (128 + j, refl, tail_byte j m)))

    below : k ≡ 13 → 128 + i ≤ 159
    below z = ⊎_elim (λ x. let y : k * 4096 + i * 64 + j < 55296 = x in omega (arith, z, y)) (λ x. let y : 57344 ≤ k * 4096 + i * 64 + j = x in omega (arith, z, y, l, m)) gap

raw_four : (k i j e : ℕ) → i < 64 → j < 64 → e < 64 → 65536 ≤ k * 262144 + i * 4096 + j * 64 + e → k * 262144 + i * 4096 + j * 64 + e < 1114112 → IsRaw ((240 + k) ∷ (128 + i) ∷ (128 + j) ∷ (128 + e) ∷ [])
raw_four k i j e h l m least most = ⊎_elim
    (λ (f : k < 1). let z : k ≡ 0 = omega (arith, f) in
    inr (record { low = 144; high = 191; left = 2 }, ap (λ x. lead (240 + x)) z, (128 + i, (128 + j) ∷ (128 + e) ∷ [], refl, in_ends 144 191 (128 + i) (omega (arith, z, least, l, m)) (omega (arith, h)), rest)))
    (λ (f : 1 ≤ k). ⊎_elim
    (λ (g : k < 4). inr (record { low = 128; high = 191; left = 2 }, lead_four (240 + k) (omega (arith, f)) (omega (arith, g)), (128 + i, (128 + j) ∷ (128 + e) ∷ [], refl, tail_byte i h, rest)))
    (λ (g : 4 ≤ k). let z : k ≡ 4 = omega (arith, g, most) in
    inr (record { low = 128; high = 143; left = 2 }, ap (λ x. lead (240 + x)) z, (128 + i, (128 + j) ∷ (128 + e) ∷ [], refl, in_ends 128 143 (128 + i) (omega arith) (omega (arith, z, most)), rest)))
    (cases_lt k 4))
    (cases_lt k 1)
  where
    rest : IsTail 128 191 1 ((128 + j) ∷ (128 + e) ∷ [])
    rest = (128 + j, (128 + e) ∷ [], refl, tail_byte j l, (128 + e, refl, tail_byte e m))

ascii_raw : (c : ℕ) → IsUnescaped c → c < 128 → IsRaw (encode_utf8 c)
ascii_raw c h s = subst IsRaw (sym (encode_ascii c s)) (inl (plain_from c h.no_control s (ne_eqb c 34 h.no_quotation_mark) (ne_eqb c 92 h.no_reverse_solidus), refl))

two_raw : (c : ℕ) → 128 ≤ c → c < 2048 → IsRaw (encode_utf8 c)
two_raw c h l =
    let k = c / 64 in
    let i = c % 64 in
    let is : k * 64 + i ≡ c = omega arith in
    let k2 : 2 ≤ k = omega (arith, h) in
    let k32 : k < 32 = omega (arith, l) in
    let i64 : i < 64 = omega arith in
    subst (λ x. IsRaw (encode_utf8 x)) is (subst IsRaw (sym (two k i k2 k32 i64)) (raw_two k i k2 k32 i64))

three_raw : (c : ℕ) → 2048 ≤ c → c < 65536 → (c < 55296) ⊎ (57344 ≤ c) → IsRaw (encode_utf8 c)
three_raw c h l gap =
    let k = c / 4096 in
    let i = c / 64 % 64 in
    let j = c % 64 in
    let is : k * 4096 + i * 64 + j ≡ c = omega arith in
    let k16 : k < 16 = omega (arith, l) in
    let i64 : i < 64 = omega arith in
    let j64 : j < 64 = omega arith in
    let least : 2048 ≤ k * 4096 + i * 64 + j = subst (λ x. 2048 ≤ x) (sym is) h in
    subst (λ x. IsRaw (encode_utf8 x)) is (subst IsRaw (sym (three k i j k16 i64 j64 least)) (raw_three k i j k16 i64 j64 least (subst (λ x. (x < 55296) ⊎ (57344 ≤ x)) (sym is) gap)))

four_raw : (c : ℕ) → 65536 ≤ c → c < 1114112 → IsRaw (encode_utf8 c)
four_raw c h l =
    let k = c / 262144 in
    let i = c / 4096 % 64 in
    let j = c / 64 % 64 in
    let e = c % 64 in
    let is : k * 262144 + i * 4096 + j * 64 + e ≡ c = omega arith in
    let k8 : k < 8 = omega (arith, l) in
    let i64 : i < 64 = omega arith in
    let j64 : j < 64 = omega arith in
    let e64 : e < 64 = omega arith in
    let least : 65536 ≤ k * 262144 + i * 4096 + j * 64 + e = subst (λ x. 65536 ≤ x) (sym is) h in
    subst (λ x. IsRaw (encode_utf8 x)) is (subst IsRaw (sym (four k i j e k8 i64 j64 e64 least)) (raw_four k i j e i64 j64 e64 least (subst (λ x. x < 1114112) (sym is) l)))

-- each character that stands for itself is in the table
pub raw_of_char : (c : ℕ) → IsUnescaped c → IsRaw (encode_utf8 c)
raw_of_char c h = ⊎_elim
    (λ (e : c < 128). ascii_raw c h e)
    (λ (e : 128 ≤ c). ⊎_elim
    (λ (f : c < 2048). two_raw c e f)
    (λ (f : 2048 ≤ c). ⊎_elim
    (λ (g : c < 65536). three_raw c f g (⊎_elim (λ x. inl x) (λ x. inr x.0) scalar))
    (λ (g : 65536 ≤ c). four_raw c g (⊎_elim (λ (x : c < 55296). omega (arith, x)) (λ x. x.1) scalar))
    (cases_lt c 65536))
    (cases_lt c 2048))
    (cases_lt c 128)
  where
    scalar : (c < 55296) ⊎ ((57344 ≤ c) × (c < 1114112))
    scalar = scalar_cases c h.scalar
