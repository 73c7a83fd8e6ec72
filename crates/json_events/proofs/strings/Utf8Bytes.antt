-- The bytes of one character that stands for itself: the table of well-formed byte sequences (the Unicode
-- Standard, table 3-7) has exactly the encodings of the characters.
use Rattle.std.proofs.Common.{◌≡◌, ℕ, ◌+◌, ◌-◌, ◌*◌, ◌/◌, ◌%◌, ◌<◌, ◌≤◌, ◌⊎◌, true, false, cond, eqb, ltb, List, [], ◌∷◌, Option, Some, inl, inr, ⊎_elim, sym, ap, ap₂, ◌∙◌, subst, arith}
use Rattle.std.specs.Prelude.{IsTrue}
use Rattle.std.specs.Char.{encode_utf8, IsScalar}
use Rattle.std.proofs.Math.Utf8.{low_scalar}
use Rattle.std.proofs.lemmas.Bool.{and_parts, cases_lt, eqb-true, eqb-false, leb-true, not-true}
use Rattle.std.proofs.lemmas.Bool.Decides.{nat_tests}
use Rattle.std.proofs.lemmas.Str.{encode_ascii}
use Rattle.json_events.specs.HeldWords.{IsTail}
use Rattle.json_events.specs.JsonStrings.{IsUnescaped}
use Rattle.json_events.specs.StringSteps.{within, is_plain, Lead, led, lead}
use Rattle.json_events.proofs.numbers.NumberWords.{from_choice}

-- a row of the table
abbrev pub IsRaw : List ℕ → Type 0
IsRaw [] = ⊥
IsRaw (b ∷ bs) = (IsTrue (is_plain b) × (bs ≡ [])) ⊎ ((l : Lead) × (lead b ≡ Some l) × IsTail l.low l.high l.left bs)

-- encodings of two, three and four bytes
pub two : (k i : ℕ) → 2 ≤ k → k < 32 → i < 64 → encode_utf8 (k * 64 + i) ≡ (192 + k) ∷ (128 + i) ∷ []
unfolding encode_utf8
two k i h l m =
    let c = k * 64 + i in
    let a : ltb c 128 ≡ false = grind (arith, nat_tests) in
    let b : ltb c 2048 ≡ true = grind (arith, nat_tests) in
    let x : 192 + c / 64 ≡ 192 + k = omega arith in
    let y : 128 + c % 64 ≡ 128 + i = omega arith in
    ap (λ t. cond t (c ∷ []) (cond (ltb c 2048) ((192 + c / 64) ∷ (128 + c % 64) ∷ []) (cond (ltb c 65536) ((224 + c / 4096) ∷ (128 + c / 64 % 64) ∷ (128 + c % 64) ∷ []) ((240 + c / 262144) ∷ (128 + c / 4096 % 64) ∷ (128 + c / 64 % 64) ∷ (128 + c % 64) ∷ [])))) a
    ∙ ap (λ t. cond t ((192 + c / 64) ∷ (128 + c % 64) ∷ []) (cond (ltb c 65536) ((224 + c / 4096) ∷ (128 + c / 64 % 64) ∷ (128 + c % 64) ∷ []) ((240 + c / 262144) ∷ (128 + c / 4096 % 64) ∷ (128 + c / 64 % 64) ∷ (128 + c % 64) ∷ []))) b
    ∙ ap₂ (λ u v. u ∷ v ∷ []) x y

-- a character of three bytes
pub three : (k i j : ℕ) → k < 16 → i < 64 → j < 64 → 2048 ≤ k * 4096 + i * 64 + j → encode_utf8 (k * 4096 + i * 64 + j) ≡ (224 + k) ∷ (128 + i) ∷ (128 + j) ∷ []
unfolding encode_utf8
three k i j h l m n =
    let c = k * 4096 + i * 64 + j in
    let a : ltb c 128 ≡ false = grind (arith, nat_tests) in
    let b : ltb c 2048 ≡ false = grind (arith, nat_tests) in
    let d : ltb c 65536 ≡ true = grind (arith, nat_tests) in
    let x : 224 + c / 4096 ≡ 224 + k = omega arith in
    let y : 128 + c / 64 % 64 ≡ 128 + i = omega arith in
    let z : 128 + c % 64 ≡ 128 + j = omega arith in
    ap (λ t. cond t (c ∷ []) (cond (ltb c 2048) ((192 + c / 64) ∷ (128 + c % 64) ∷ []) (cond (ltb c 65536) ((224 + c / 4096) ∷ (128 + c / 64 % 64) ∷ (128 + c % 64) ∷ []) ((240 + c / 262144) ∷ (128 + c / 4096 % 64) ∷ (128 + c / 64 % 64) ∷ (128 + c % 64) ∷ [])))) a
    ∙ ap (λ t. cond t ((192 + c / 64) ∷ (128 + c % 64) ∷ []) (cond (ltb c 65536) ((224 + c / 4096) ∷ (128 + c / 64 % 64) ∷ (128 + c % 64) ∷ []) ((240 + c / 262144) ∷ (128 + c / 4096 % 64) ∷ (128 + c / 64 % 64) ∷ (128 + c % 64) ∷ []))) b
    ∙ ap (λ t. cond t ((224 + c / 4096) ∷ (128 + c / 64 % 64) ∷ (128 + c % 64) ∷ []) ((240 + c / 262144) ∷ (128 + c / 4096 % 64) ∷ (128 + c / 64 % 64) ∷ (128 + c % 64) ∷ [])) d
    ∙ (λ q. x q ∷ y q ∷ z q ∷ [])

-- a character of four bytes
pub four : (k i j e : ℕ) → k < 8 → i < 64 → j < 64 → e < 64 → 65536 ≤ k * 262144 + i * 4096 + j * 64 + e → encode_utf8 (k * 262144 + i * 4096 + j * 64 + e) ≡ (240 + k) ∷ (128 + i) ∷ (128 + j) ∷ (128 + e) ∷ []
unfolding encode_utf8
four k i j e h l m n o =
    let c = k * 262144 + i * 4096 + j * 64 + e in
    let a : ltb c 128 ≡ false = grind (arith, nat_tests) in
    let b : ltb c 2048 ≡ false = grind (arith, nat_tests) in
    let d : ltb c 65536 ≡ false = grind (arith, nat_tests) in
    let x : 240 + c / 262144 ≡ 240 + k = omega arith in
    let y : 128 + c / 4096 % 64 ≡ 128 + i = omega arith in
    let z : 128 + c / 64 % 64 ≡ 128 + j = omega arith in
    let w : 128 + c % 64 ≡ 128 + e = omega arith in
    ap (λ t. cond t (c ∷ []) (cond (ltb c 2048) ((192 + c / 64) ∷ (128 + c % 64) ∷ []) (cond (ltb c 65536) ((224 + c / 4096) ∷ (128 + c / 64 % 64) ∷ (128 + c % 64) ∷ []) ((240 + c / 262144) ∷ (128 + c / 4096 % 64) ∷ (128 + c / 64 % 64) ∷ (128 + c % 64) ∷ [])))) a
    ∙ ap (λ t. cond t ((192 + c / 64) ∷ (128 + c % 64) ∷ []) (cond (ltb c 65536) ((224 + c / 4096) ∷ (128 + c / 64 % 64) ∷ (128 + c % 64) ∷ []) ((240 + c / 262144) ∷ (128 + c / 4096 % 64) ∷ (128 + c / 64 % 64) ∷ (128 + c % 64) ∷ []))) b
    ∙ ap (λ t. cond t ((224 + c / 4096) ∷ (128 + c / 64 % 64) ∷ (128 + c % 64) ∷ []) ((240 + c / 262144) ∷ (128 + c / 4096 % 64) ∷ (128 + c / 64 % 64) ∷ (128 + c % 64) ∷ [])) d
    ∙ (λ q. x q ∷ y q ∷ z q ∷ w q ∷ [])

-- a character of the bytes
abbrev pub IsOf : List ℕ → Type 0
IsOf bs = (c : ℕ) × IsUnescaped c × (bs ≡ encode_utf8 c)

-- within two ends
inside : (low high b : ℕ) → within low high b ≡ true → (low ≤ b) × (b ≤ high)
inside low high b h = let p = and_parts _ _ h in (leb-true _ _ p.0, leb-true _ _ p.1)

beyond : (c : ℕ) → 128 ≤ c → IsScalar c → IsUnescaped c
beyond c h s = record {
  scalar = s;
  no_control = omega (arith, h);
  no_quotation_mark = λ e. omega (arith, h, e);
  no_reverse_solidus = λ e. omega (arith, h, e);
}

-- a character is below the surrogates or above them
pub in_scalar : (c : ℕ) → (c < 55296) ⊎ ((57344 ≤ c) × (c < 1114112)) → IsScalar c
in_scalar c h = ⊎_elim (λ x. low_scalar c x) (λ x. high c x.0 x.1) h
  where
    high : (c : ℕ) → 57344 ≤ c → c < 1114112 → IsScalar c
    high c x y = grind (arith, nat_tests)

plain_parts : (b : ℕ) → is_plain b ≡ true → (32 ≤ b) × (b < 128) × (eqb b 34 ≡ false) × (eqb b 92 ≡ false)
plain_parts b h =
    let p = and_parts _ _ h in
    let q = and_parts _ _ p.1 in
    let r = inside 32 127 b p.0 in
    (r.0, omega (arith, r.1), not-true _ q.0, not-true _ q.1)

of_plain : (b : ℕ) → is_plain b ≡ true → IsOf (b ∷ [])
of_plain b h =
    let p = plain_parts b h in (
      b,
      record {
        scalar = low_scalar b (omega (arith, p.1));
        no_control = p.0;
        no_quotation_mark = eqb-false b 34 p.2;
        no_reverse_solidus = eqb-false b 92 p.3;
      },
      sym (encode_ascii b p.1),
    )

of_two : (b low high : ℕ) (bs : List ℕ) → 194 ≤ b → b ≤ 223 → 128 ≤ low → high ≤ 191 → IsTail low high 0 bs → IsOf (b ∷ bs)
of_two b low high bs h l m n t =
    let x = t.0 in
    let r = inside low high x t.2 in
    let k = b - 192 in
    let i = x - 128 in
    let c = k * 64 + i in
    let is_k : b ≡ 192 + k = omega (arith, h) in
    let is_i : x ≡ 128 + i = omega (arith, r.0, m) in
    let long : encode_utf8 c ≡ (192 + k) ∷ (128 + i) ∷ [] = two k i (omega (arith, h)) (omega (arith, l)) (omega (arith, r.1, n)) in
    let small : c < 2048 = omega (arith, l, r.1, n) in
    let large : 128 ≤ c = omega (arith, h) in
    (c, beyond c large (low_scalar c (omega (arith, small))), (λ q. b ∷ t.1 q) ∙ (λ q. is_k q ∷ is_i q ∷ []) ∙ sym long)

of_three : (b low high : ℕ) (bs : List ℕ) → 224 ≤ b → b ≤ 239 → 128 ≤ low → high ≤ 191
    → ((i : ℕ) → low ≤ 128 + i → 128 + i ≤ high → (32 ≤ i) ⊎ (225 ≤ b))
    → ((i : ℕ) → low ≤ 128 + i → 128 + i ≤ high → (b ≤ 236) ⊎ ((i < 32) × (b ≤ 237)) ⊎ (238 ≤ b))
    → IsTail low high 1 bs → IsOf (b ∷ bs)
of_three b low high bs h l m n least gap t =
    let x = t.0 in
    let u = t.4 in
    let y = u.0 in
    let r = inside low high x t.3 in
    let s = inside 128 191 y u.2 in
    let k = b - 224 in
    let i = x - 128 in
    let j = y - 128 in
    let c = k * 4096 + i * 64 + j in
    let is_k : b ≡ 224 + k = omega (arith, h) in
    let is_i : x ≡ 128 + i = omega (arith, r.0, m) in
    let is_j : y ≡ 128 + j = omega (arith, s.0) in
    let lo : low ≤ 128 + i = omega (arith, r.0, is_i) in
    let hi : 128 + i ≤ high = omega (arith, r.1, is_i) in
    let i64 : i < 64 = omega (arith, r.1, n) in
    let j64 : j < 64 = omega (arith, s.1) in
    let big : 2048 ≤ c = ⊎_elim (λ e. let f : 32 ≤ i = e in omega arith) (λ e. let f : 225 ≤ b = e in omega arith) (least i lo hi) in
    let scalar : IsScalar c = in_scalar c (⊎_elim
    (λ f. let g : b ≤ 236 = f in inl (omega arith))
    (λ e. ⊎_elim (λ f. let g : i < 32 = f.0 in let o : b ≤ 237 = f.1 in inl (omega arith)) (λ f. let g : 238 ≤ b = f in inr (omega arith, omega arith)) e)
    (gap i lo hi)) in
    let long : encode_utf8 c ≡ (224 + k) ∷ (128 + i) ∷ (128 + j) ∷ [] = three k i j (omega (arith, l)) i64 j64 big in
    (c, beyond c (omega (arith, big)) scalar, (λ q. b ∷ t.2 q) ∙ (λ q. b ∷ x ∷ u.1 q) ∙ (λ q. is_k q ∷ is_i q ∷ is_j q ∷ []) ∙ sym long)

of_four : (b low high : ℕ) (bs : List ℕ) → 240 ≤ b → b ≤ 244 → 128 ≤ low → high ≤ 191
    → ((i : ℕ) → low ≤ 128 + i → 128 + i ≤ high → (16 ≤ i) ⊎ (241 ≤ b))
    → ((i : ℕ) → low ≤ 128 + i → 128 + i ≤ high → (b ≤ 243) ⊎ (i < 16))
    → IsTail low high 2 bs → IsOf (b ∷ bs)
of_four b low high bs h l m n least most t =
    let x = t.0 in
    let u = t.4 in
    let y = u.0 in
    let v = u.4 in
    let z = v.0 in
    let r = inside low high x t.3 in
    let s = inside 128 191 y u.3 in
    let w = inside 128 191 z v.2 in
    let k = b - 240 in
    let i = x - 128 in
    let j = y - 128 in
    let e = z - 128 in
    let c = k * 262144 + i * 4096 + j * 64 + e in
    let is_k : b ≡ 240 + k = omega (arith, h) in
    let is_i : x ≡ 128 + i = omega (arith, r.0, m) in
    let is_j : y ≡ 128 + j = omega (arith, s.0) in
    let is_e : z ≡ 128 + e = omega (arith, w.0) in
    let lo : low ≤ 128 + i = omega (arith, r.0, is_i) in
    let hi : 128 + i ≤ high = omega (arith, r.1, is_i) in
    let i64 : i < 64 = omega (arith, r.1, n) in
    let j64 : j < 64 = omega (arith, s.1) in
    let e64 : e < 64 = omega (arith, w.1) in
    let big : 65536 ≤ c = ⊎_elim (λ g. let f : 16 ≤ i = g in omega arith) (λ g. let f : 241 ≤ b = g in omega arith) (least i lo hi) in
    let small : c < 1114112 = ⊎_elim (λ g. let f : b ≤ 243 = g in omega arith) (λ g. let f : i < 16 = g in omega arith) (most i lo hi) in
    let scalar : IsScalar c = in_scalar c (inr (omega (arith, big), small)) in
    let long : encode_utf8 c ≡ (240 + k) ∷ (128 + i) ∷ (128 + j) ∷ (128 + e) ∷ [] = four k i j e (omega (arith, l)) i64 j64 e64 big in
    (c, beyond c (omega (arith, big)) scalar, (λ q. b ∷ t.2 q) ∙ (λ q. b ∷ x ∷ u.2 q) ∙ (λ q. b ∷ x ∷ y ∷ v.1 q) ∙ (λ q. is_k q ∷ is_i q ∷ is_j q ∷ is_e q ∷ []) ∙ sym long)

-- the bytes behind a first byte, by its row
module _ (b : ℕ) (bs : List ℕ) (l : Lead) (t : IsTail l.low l.high l.left bs) where
  tail_as : (low high n : ℕ) → led low high n ≡ Some l → IsTail low high n bs
  tail_as low high n e = let same : l ≡ record { low = low; high = high; left = n } = cc in subst (λ (x : Lead). IsTail x.low x.high x.left bs) same t

  abbrev Is : Option Lead → Type 0
  Is o = o ≡ Some l

  of_lead : lead b ≡ Some l → IsOf (b ∷ bs)
  of_lead h =
      from_choice Is (within 194 223 b) _ _ (λ e x. let r = inside 194 223 b e in of_two b 128 191 bs r.0 r.1 (omega arith) (omega arith) (tail_as 128 191 0 x)) (λ _.
      from_choice Is (eqb b 224) _ _ (λ e x. let r = eqb-true b 224 e in of_three b 160 191 bs (omega (arith, r)) (omega (arith, r)) (omega arith) (omega arith) (λ i f g. inl (omega (arith, f))) (λ i f g. inl (omega (arith, r))) (tail_as 160 191 1 x)) (λ _.
      from_choice Is (eqb b 237) _ _ (λ e x. let r = eqb-true b 237 e in of_three b 128 159 bs (omega (arith, r)) (omega (arith, r)) (omega arith) (omega arith) (λ i f g. inr (omega (arith, r))) (λ i f g. inr (inl (omega (arith, g), omega (arith, r)))) (tail_as 128 159 1 x)) (λ n237.
      from_choice Is (within 225 239 b) _ _ (λ e x. let r = inside 225 239 b e in of_three b 128 191 bs (omega (arith, r.0)) r.1 (omega arith) (omega arith) (λ i f g. inr r.0) (λ i f g. by_gap b (eqb-false b 237 n237)) (tail_as 128 191 1 x)) (λ _.
      from_choice Is (eqb b 240) _ _ (λ e x. let r = eqb-true b 240 e in of_four b 144 191 bs (omega (arith, r)) (omega (arith, r)) (omega arith) (omega arith) (λ i f g. inl (omega (arith, f))) (λ i f g. inl (omega (arith, r))) (tail_as 144 191 2 x)) (λ _.
      from_choice Is (within 241 243 b) _ _ (λ e x. let r = inside 241 243 b e in of_four b 128 191 bs (omega (arith, r.0)) (omega (arith, r.1)) (omega arith) (omega arith) (λ i f g. inr r.0) (λ i f g. inl r.1) (tail_as 128 191 2 x)) (λ _.
      from_choice Is (eqb b 244) _ _ (λ e x. let r = eqb-true b 244 e in of_four b 128 143 bs (omega (arith, r)) (omega (arith, r)) (omega arith) (omega arith) (λ i f g. inr (omega (arith, r))) (λ i f g. inr (omega (arith, g))) (tail_as 128 143 2 x))
      (λ _ x. absurd (cc)))))))) h
    where
      by_gap : {Q : Type 0} (b : ℕ) → (b ≡ 237 → ⊥) → (b ≤ 236) ⊎ Q ⊎ (238 ≤ b)
      by_gap b n = ⊎_elim (λ (e : b < 237). inl (omega (arith, e))) (λ (e : 237 ≤ b). inr (inr (omega (arith, e, n)))) (cases_lt b 237)

-- each row is of characters that stand for themselves
pub char_of_raw : (bs : List ℕ) → IsRaw bs → IsOf bs
char_of_raw [] h = absurd h
char_of_raw (b ∷ bs) h = ⊎_elim
    (λ x. subst (λ (l : List ℕ). IsOf (b ∷ l)) (sym x.1) (of_plain b x.0))
    (λ x. of_lead b bs x.0 x.2 x.1)
    h
