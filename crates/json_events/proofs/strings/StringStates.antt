-- A string that has not ended goes on in states from which some bytes complete it.
use Rattle.std.proofs.Common.{◌≡◌, ℕ, zero, suc, ◌+◌, ◌*◌, ◌<◌, ◌≤◌, ◌⊎◌, Bool, true, false, cond, eqb, List, [], ◌∷◌, ◌++◌, Option, Some, None, inl, inr, ⊎_elim, refl, sym, ap, ◌∙◌, subst, arith}
use Rattle.std.specs.Prelude.{⊤, not, ◌||◌}
use Rattle.std.specs.Char.{digit_value}
use Rattle.std.proofs.lemmas.Bool.{cond_both, ltb-true, not-false, cases_lt, eqb-true, leb-true, and_parts}
use Rattle.std.proofs.lemmas.Bool.Decides.{nat_tests}
use Rattle.json_events.specs.declared.state.StringState.{StringState}
use Rattle.json_events.specs.declared.state.StringState.TheVariants.{Plain, Continuation, Escape, Hex, LowSolidus, LowU, Low, Closed}
use Rattle.json_events.specs.JsonStrings.{escaped_character, is_high_surrogate}
use Rattle.json_events.specs.StringSteps.{within, is_plain, Lead, lead, is_hex, led_to, tail_to, short_to, is_low_front, hex_to, low_to, more_string, string_adds, string_end, string_from}
use Rattle.json_events.specs.WordStates.{IsUnitFront, IsLowFront, IsOpenString}

-- a string that has just taken a byte
abbrev pub IsNearString : StringState → Type 0
IsNearString Plain = ⊤
IsNearString (Continuation low high n) = low ≤ high
IsNearString Escape = ⊤
IsNearString (Hex k v) = IsUnitFront k v
IsNearString (LowSolidus h) = is_high_surrogate h ≡ true
IsNearString (LowU h) = is_high_surrogate h ≡ true
IsNearString (Low h k v) = (is_high_surrogate h ≡ true) × IsLowFront k v
IsNearString Closed = ⊤

-- the string, where it goes on, has just taken a byte
abbrev pub NearAt : Option StringState → Type 0
NearAt None = ⊤
NearAt (Some s) = IsNearString s

abbrev Row : Option Lead → Type 0
Row None = ⊤
Row (Some l) = l.low ≤ l.high

lead_row : (b : ℕ) → Row (lead b)
lead_row b =
    cond_both (within 194 223 b) _ _ Row (λ _. (omega arith)) (λ _. (cond_both (eqb b 224) _ _ Row (λ _. (omega arith)) (λ _. (cond_both (eqb b 237) _ _ Row (λ _. (omega arith)) (λ _. (cond_both (within 225 239 b) _ _ Row (λ _. (omega arith)) (λ _. (cond_both (eqb b 240) _ _ Row (λ _. (omega arith)) (λ _. (cond_both (within 241 243 b) _ _ Row (λ _. (omega arith)) (λ _. (cond_both (eqb b 244) _ _ Row (λ _. (omega arith)) (λ _. tt)))))))))))))

led_near : (o : Option Lead) → Row o → NearAt (led_to o)
led_near None h = tt
led_near (Some l) h = h

short_near : (o : Option ℕ) → NearAt (short_to o)
short_near None = tt
short_near (Some v) = tt

tail_near : (n : ℕ) → IsNearString (tail_to n)
tail_near zero = tt
tail_near (suc n) = omega arith

-- one digit more, with no further one to come
hex_last : (u : ℕ) → NearAt (hex_to 0 u)
hex_last u = by_test (is_high_surrogate u) refl
  where
    by_test : (t : Bool) → is_high_surrogate u ≡ t → IsNearString (cond t (LowSolidus u) Plain)
    by_test true e = e
    by_test false e = tt

low_front_last : (v d : ℕ) → d < 16 → is_low_front v ≡ false → (v * 16 + d < 3520) ⊎ (3584 ≤ v * 16 + d)
low_front_last v d h f = ⊎_elim (λ (x : v < 220). inl (omega (arith, x, h))) (λ (x : 220 ≤ v). inr (beyond x)) (cases_lt v 220)
  where
    beyond : 220 ≤ v → 3584 ≤ v * 16 + d
    beyond x = let y : 224 ≤ v = grind (arith, nat_tests) in omega (arith, y)

hex_near : (n v d : ℕ) → d < 16 → IsUnitFront (suc n) v → NearAt (hex_to n (v * 16 + d))
hex_near zero v d h f = hex_last (v * 16 + d)
hex_near (suc zero) v d h f = (omega (arith, h, f.0), low_front_last v d h f.1)
hex_near (suc (suc zero)) v d h f = cond_both (is_low_front (v * 16 + d)) _ _ NearAt (λ _. tt) (λ e. (omega (arith, h, f), e))
hex_near (suc (suc (suc zero))) v d h f = omega (arith, h, f)
hex_near (suc (suc (suc (suc n)))) v d h f = absurd f

low_near : (k n v d : ℕ) → is_high_surrogate k ≡ true → d < 16 → IsLowFront (suc n) v → NearAt (low_to k n (v * 16 + d))
low_near k zero v d hi h f = tt
low_near k (suc zero) v d hi h f = (hi, in_front f)
  where
    in_front : is_low_front v ≡ true → (3520 ≤ v * 16 + d) × (v * 16 + d < 3584)
    in_front e =
        let p = and_parts _ _ e in
        let x : 220 ≤ v = leb-true _ _ p.0 in
        let y : v ≤ 223 = leb-true _ _ p.1 in
        (omega (arith, x), omega (arith, y, h))
low_near k (suc (suc zero)) v d hi h f = cond_both (not (is_low_front (v * 16 + d))) None (Some (Low k 2 (v * 16 + d))) NearAt (λ _. tt) (λ e. (hi, not-false (is_low_front (v * 16 + d)) e))
low_near k (suc (suc (suc zero))) v d hi h f = cond_both (not (eqb (v * 16 + d) 13) || false) None (Some (Low k 3 (v * 16 + d))) NearAt (λ _. tt) (λ (e : not (eqb (v * 16 + d) 13) || false ≡ false). (hi, thirteen (eqb (v * 16 + d) 13) refl e))
  where
    thirteen : (t : Bool) → eqb (v * 16 + d) 13 ≡ t → not t || false ≡ false → v * 16 + d ≡ 13
    thirteen true e x = eqb-true (v * 16 + d) 13 e
    thirteen false e x = absurd (cc)
low_near k (suc (suc (suc (suc n)))) v d hi h f = absurd f

-- a byte keeps it
pub string_near : (s : StringState) (b : ℕ) → IsOpenString s → NearAt (more_string s b)
string_near Plain b h =
    cond_both (eqb b 34) _ _ NearAt (λ _. tt) (λ _. cond_both (eqb b 92) _ _ NearAt (λ _. tt) (λ _. cond_both (is_plain b) _ _ NearAt (λ _. tt) (λ _. led_near (lead b) (lead_row b))))
string_near (Continuation low high n) b h = cond_both (within low high b) _ _ NearAt (λ _. tail_near n) (λ _. tt)
string_near Escape b h = cond_both (eqb b 117) _ _ NearAt (λ _. refl) (λ _. short_near (escaped_character b))
string_near (Hex zero v) b h = tt
string_near (Hex (suc n) v) b h = cond_both (is_hex b) _ _ NearAt (λ e. hex_near n v (digit_value b) (ltb-true _ _ e) h) (λ _. tt)
string_near (LowSolidus k) b h = cond_both (eqb b 92) _ _ NearAt (λ _. h) (λ _. tt)
string_near (LowU k) b h = cond_both (eqb b 117) _ _ NearAt (λ _. (h, refl)) (λ _. tt)
string_near (Low k zero v) b h = tt
string_near (Low k (suc n) v) b h = cond_both (is_hex b) _ _ NearAt (λ e. low_near k n v (digit_value b) h.0 (ltb-true _ _ e) h.1) (λ _. tt)
string_near Closed b h = absurd h

-- completions

-- some bytes end the string
abbrev pub Ends : StringState → List ℕ → Type 0
Ends s held = (t : List ℕ) × (all : List ℕ) × (string_from (Some s) held t ≡ Some all)

-- one byte, and then what completes the state behind it
then_ends : (s next : StringState) (b : ℕ) (held : List ℕ) → more_string s b ≡ Some next → ((held : List ℕ) → Ends next held) → Ends s held
then_ends s next b held e f =
    let r = f (held ++ string_adds s b) in
    (b ∷ r.0, r.1, ap (λ o. string_from o (held ++ string_adds s b) r.0) e ∙ r.2)

plain_ends : (held : List ℕ) → Ends Plain held
plain_ends held = (34 ∷ [], held ++ [], refl)

tail_ends : (n low high : ℕ) (held : List ℕ) → low ≤ high → Ends (Continuation low high n) held
tail_ends zero low high held h = then_ends (Continuation low high zero) Plain low held (ap (λ t. cond t (Some Plain) None) (at_low low high h)) plain_ends
  where
    at_low : (low high : ℕ) → low ≤ high → within low high low ≡ true
    at_low low high h = grind (arith, nat_tests)
tail_ends (suc n) low high held h = then_ends (Continuation low high (suc n)) (Continuation 128 191 n) low held (ap (λ t. cond t (Some (Continuation 128 191 n)) None) (at_low low high h)) (λ held. tail_ends n 128 191 held (omega arith))
  where
    at_low : (low high : ℕ) → low ≤ high → within low high low ≡ true
    at_low low high h = grind (arith, nat_tests)

-- the rest of DC00, from each number of digits on
low_1 : (h v : ℕ) (held : List ℕ) → Ends (Low h 1 v) held
low_1 h v held = then_ends (Low h 1 v) Plain 48 held refl plain_ends

low_2 : (h v : ℕ) (held : List ℕ) → Ends (Low h 2 v) held
low_2 h v held = then_ends (Low h 2 v) (Low h 1 (v * 16 + 0)) 48 held refl (λ held. low_1 h (v * 16 + 0) held)

low_3 : (h : ℕ) (held : List ℕ) → Ends (Low h 3 13) held
low_3 h held = then_ends (Low h 3 13) (Low h 2 220) 67 held refl (λ held. low_2 h 220 held)

low_4 : (h : ℕ) (held : List ℕ) → Ends (Low h 4 0) held
low_4 h held = then_ends (Low h 4 0) (Low h 3 13) 68 held refl (λ held. low_3 h held)

low_u_ends : (h : ℕ) (held : List ℕ) → Ends (LowU h) held
low_u_ends h held = then_ends (LowU h) (Low h 4 0) 117 held refl (λ held. low_4 h held)

low_solidus_ends : (h : ℕ) (held : List ℕ) → Ends (LowSolidus h) held
low_solidus_ends h held = then_ends (LowSolidus h) (LowU h) 92 held refl (λ held. low_u_ends h held)

low_ends : (h k v : ℕ) (held : List ℕ) → IsLowFront k v → Ends (Low h k v) held
low_ends h zero v held f = absurd f
low_ends h (suc zero) v held f = low_1 h v held
low_ends h (suc (suc zero)) v held f = low_2 h v held
low_ends h (suc (suc (suc zero))) v held f = subst (λ x. Ends (Low h 3 x) held) (sym f) (low_3 h held)
low_ends h (suc (suc (suc (suc zero)))) v held f = subst (λ x. Ends (Low h 4 x) held) (sym f) (low_4 h held)
low_ends h (suc (suc (suc (suc (suc n))))) v held f = absurd f

-- zeros for the digits, and the second half of a pair where the first came
unit_1 : (v : ℕ) (held : List ℕ) → Ends (Hex 1 v) held
unit_1 v held = then_ends (Hex 1 v) (cond (is_high_surrogate (v * 16 + 0)) (LowSolidus (v * 16 + 0)) Plain) 48 held refl (λ held. by_test (is_high_surrogate (v * 16 + 0)) held)
  where
    by_test : (t : Bool) (held : List ℕ) → Ends (cond t (LowSolidus (v * 16 + 0)) Plain) held
    by_test true held = low_solidus_ends (v * 16 + 0) held
    by_test false held = plain_ends held

unit_2 : (v : ℕ) (held : List ℕ) → Ends (Hex 2 v) held
unit_2 v held = then_ends (Hex 2 v) (Hex 1 (v * 16 + 0)) 48 held refl (λ held. unit_1 (v * 16 + 0) held)

unit_3 : (v : ℕ) (held : List ℕ) → Ends (Hex 3 v) held
unit_3 v held = then_ends (Hex 3 v) (Hex 2 (v * 16 + 0)) 48 held (ap (λ t. cond t None (Some (Hex 2 (v * 16 + 0)))) (no_front v)) (λ held. unit_2 (v * 16 + 0) held)
  where
    no_front : (v : ℕ) → is_low_front (v * 16 + 0) ≡ false
    no_front v = grind (arith, nat_tests)

unit_4 : (v : ℕ) (held : List ℕ) → Ends (Hex 4 v) held
unit_4 v held = then_ends (Hex 4 v) (Hex 3 (v * 16 + 0)) 48 held refl (λ held. unit_3 (v * 16 + 0) held)

unit_ends : (k v : ℕ) (held : List ℕ) → IsUnitFront k v → Ends (Hex k v) held
unit_ends zero v held f = absurd f
unit_ends (suc zero) v held f = unit_1 v held
unit_ends (suc (suc zero)) v held f = unit_2 v held
unit_ends (suc (suc (suc zero))) v held f = unit_3 v held
unit_ends (suc (suc (suc (suc zero)))) v held f = unit_4 v held
unit_ends (suc (suc (suc (suc (suc n))))) v held f = absurd f

-- each state of a string that has not ended is completed by some bytes
pub string_ends : (s : StringState) (held : List ℕ) → IsOpenString s → Ends s held
string_ends Plain held h = plain_ends held
string_ends (Continuation low high n) held h = tail_ends n low high held h
string_ends Escape held h = then_ends Escape Plain 110 held refl plain_ends
string_ends (Hex k v) held h = unit_ends k v held h
string_ends (LowSolidus k) held h = low_solidus_ends k held
string_ends (LowU k) held h = low_u_ends k held
string_ends (Low k n v) held h = low_ends k n v held h.1
string_ends Closed held h = absurd h

-- a string that has not ended by itself is open
pub string_open : (s : StringState) (held : List ℕ) → IsNearString s → string_end s held ≡ None → IsOpenString s
string_open Plain held h e = tt
string_open (Continuation low high n) held h e = h
string_open Escape held h e = tt
string_open (Hex k v) held h e = h
string_open (LowSolidus k) held h e = h
string_open (LowU k) held h e = h
string_open (Low k n v) held h e = h
string_open Closed held h e = absurd (cc)

-- a string that has not ended has no text
pub open_string : (s : StringState) (held : List ℕ) → IsOpenString s → string_end s held ≡ None
open_string Plain held h = refl
open_string (Continuation low high n) held h = refl
open_string Escape held h = refl
open_string (Hex k v) held h = refl
open_string (LowSolidus k) held h = refl
open_string (LowU k) held h = refl
open_string (Low k n v) held h = refl
open_string Closed held h = absurd h
