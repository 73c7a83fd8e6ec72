-- The machine of numbers accepts the numbers of the grammar and nothing else.
use Rattle.std.proofs.Common.{◌≡◌, ℕ, Bool, true, false, cond, eqb, List, [], ◌∷◌, ◌++◌, Option, Some, None, inl, inr, ⊎_elim, refl, sym, ap, ◌∙◌, subst, arith}
use Rattle.std.specs.Prelude.{⊤, ◌<◌, ◌≤◌, ◌⊎◌, slice_get, option_map}
use Rattle.std.proofs.lemmas.Bool.{or_cases, eqb-true}
use Rattle.std.proofs.lemmas.Bool.Decides.{nat_tests}
use Rattle.json_events.specs.declared.state.Name.{Name}
use Rattle.json_events.specs.declared.state.WordState.{WordState}
use Rattle.json_events.specs.declared.state.WordState.TheVariants.{Open, Close, Comma, Colon, Literal, Inside, Minus, Zero, Whole, Point, Fraction, Exponent, Sign, Power}
use Rattle.std.specs.Char.{digit_value}
use Rattle.std.specs.Str.Parse.{AllDigits}
use Rattle.json_events.specs.declared.state.StringState.{StringState}
use Rattle.json_events.specs.JsonText.{spelling}
use Rattle.json_events.specs.JsonNumbers.{AreSomeDigits, IsMinus, IsInt, IsFraction, IsSign, IsPower, IsExponent, IsNumber}
use Rattle.json_events.specs.StringSteps.{more_string}
use Rattle.json_events.specs.WordSteps.{is_digit, is_e, is_sign, after_int, some_digit, letter, more_state}

-- the states in which a number may end
abbrev pub IsLast : WordState → Type 0
IsLast (Open k) = ⊥
IsLast (Close k) = ⊥
IsLast Comma = ⊥
IsLast Colon = ⊥
IsLast (Literal n k) = ⊥
IsLast (Inside s) = ⊥
IsLast Minus = ⊥
IsLast Zero = ⊤
IsLast Whole = ⊤
IsLast Point = ⊥
IsLast Fraction = ⊤
IsLast Exponent = ⊥
IsLast Sign = ⊥
IsLast Power = ⊤

-- the machine takes these bytes and may end there
abbrev pub Accepts : Option WordState → List ℕ → Type 0
Accepts None t = ⊥
Accepts (Some l) [] = IsLast l
Accepts (Some l) (b ∷ t) = Accepts (more_state l b) t

-- an integer part, a fraction and an exponent
abbrev pub IsUnsigned : List ℕ → Type 0
IsUnsigned s = (int fraction exponent : List ℕ) × (s ≡ int ++ (fraction ++ exponent)) × IsInt int × IsFraction fraction × IsExponent exponent

-- a digit, as a byte and by its value
digit_from : (b : ℕ) → is_digit b ≡ true → digit_value b < 10
digit_from b d = grind (arith, nat_tests)

digit_to : (b : ℕ) → digit_value b < 10 → is_digit b ≡ true
digit_to b d = grind (arith, nat_tests)

e_from : (b : ℕ) → is_e b ≡ true → (b ≡ 101) ⊎ (b ≡ 69)
e_from b e = ⊎_elim (λ x. inl (eqb-true b 101 x)) (λ x. inr (eqb-true b 69 x)) (or_cases _ _ e)

e_to : (b : ℕ) → (b ≡ 101) ⊎ (b ≡ 69) → is_e b ≡ true
e_to b h = ⊎_elim (λ x. subst (λ c. is_e c ≡ true) (sym x) refl) (λ x. subst (λ c. is_e c ≡ true) (sym x) refl) h

sign_from : (b : ℕ) → is_sign b ≡ true → IsSign (b ∷ [])
sign_from b e = ⊎_elim (λ x. inr (inr (ap (λ c. c ∷ []) (eqb-true b 43 x)))) (λ x. inr (inl (ap (λ c. c ∷ []) (eqb-true b 45 x)))) (or_cases _ _ e)

-- the part of the grammar that is left in each state
abbrev pub AfterInt : List ℕ → Type 0
AfterInt t = (f e : List ℕ) × (t ≡ f ++ e) × IsFraction f × IsExponent e

-- the bytes that end a number, by its state
abbrev pub Tail : WordState → List ℕ → Type 0
Tail (Open k) t = ⊥
Tail (Close k) t = ⊥
Tail Comma t = ⊥
Tail Colon t = ⊥
Tail (Literal n k) t = ⊥
Tail (Inside s) t = ⊥
Tail Minus t = IsUnsigned t
Tail Zero t = AfterInt t
Tail Whole t = (ds f e : List ℕ) × (t ≡ ds ++ (f ++ e)) × AllDigits 10 ds × IsFraction f × IsExponent e
Tail Point t = (ds e : List ℕ) × (t ≡ ds ++ e) × AreSomeDigits ds × IsExponent e
Tail Fraction t = (ds e : List ℕ) × (t ≡ ds ++ e) × AllDigits 10 ds × IsExponent e
Tail Exponent t = IsPower t
Tail Sign t = AreSomeDigits t
Tail Power t = AllDigits 10 t

-- the bytes that end a number, where it goes on
abbrev pub TailAt : Option WordState → List ℕ → Type 0
TailAt None t = ⊥
TailAt (Some l) t = Tail l t

-- from what a test chose
pub from_choice : {X Q : Type 0} (P : X → Type 0) (t : Bool) (x y : X) → (t ≡ true → P x → Q) → (t ≡ false → P y → Q) → P (cond t x y) → Q
from_choice P true x y f g h = f refl h
from_choice P false x y f g h = g refl h

nonzero : (b : ℕ) → eqb b 48 ≡ false → is_digit b ≡ true → 49 ≤ b
nonzero b n d = grind (arith, nat_tests)

module _ (b : ℕ) (t : List ℕ) where
  abbrev Next : Option WordState → Type 0
  Next o = TailAt o t

  back_digit : {Q : Type 0} (l : WordState) → (is_digit b ≡ true → Tail l t → Q) → Next (some_digit l b) → Q
  back_digit l f h = from_choice Next (is_digit b) (Some l) None f (λ _ n. absurd n) h

  back_after_int : Next (after_int b) → AfterInt (b ∷ t)
  back_after_int h =
      from_choice Next (eqb b 46) (Some Point) (cond (is_e b) (Some Exponent) None)
      (λ p x. (b ∷ x.0, x.1, ap (λ l. b ∷ l) x.2, (eqb-true b 46 p, x.3), x.4))
      (λ _ r. from_choice Next (is_e b) (Some Exponent) None (λ e x. ([], b ∷ t, refl, tt, (e_from b e, x))) (λ _ n. absurd n) r)
      h

  back_minus : Next (more_state Minus b) → IsUnsigned (b ∷ t)
  back_minus h =
      from_choice Next (eqb b 48) (Some Zero) (some_digit Whole b)
      (λ z x. (b ∷ [], x.0, x.1, ap (λ l. b ∷ l) x.2, inl (eqb-true b 48 z, refl), x.3, x.4))
      (λ n r. back_digit Whole (λ d x. (b ∷ x.0, x.1, x.2, ap (λ l. b ∷ l) x.3, inr (nonzero b n d, (digit_from b d, x.4)), x.5, x.6)) r)
      h

  back_fraction : Next (more_state Fraction b) → Tail Fraction (b ∷ t)
  back_fraction h =
      from_choice Next (is_digit b) (Some Fraction) (cond (is_e b) (Some Exponent) None)
      (λ d x. (b ∷ x.0, x.1, ap (λ l. b ∷ l) x.2, (digit_from b d, x.3), x.4))
      (λ _ r. from_choice Next (is_e b) (Some Exponent) None (λ e x. ([], b ∷ t, refl, tt, (e_from b e, x))) (λ _ n. absurd n) r)
      h

  back_whole : Next (more_state Whole b) → Tail Whole (b ∷ t)
  back_whole h =
      from_choice Next (is_digit b) (Some Whole) (after_int b)
      (λ d x. (b ∷ x.0, x.1, x.2, ap (λ l. b ∷ l) x.3, (digit_from b d, x.4), x.5, x.6))
      (λ _ r. let x = back_after_int r in ([], x.0, x.1, x.2, tt, x.3, x.4))
      h

  back_exponent : Next (more_state Exponent b) → IsPower (b ∷ t)
  back_exponent h =
      from_choice Next (is_sign b) (Some Sign) (some_digit Power b)
      (λ s x. record { sign = b ∷ []; digits = t; text_is = refl; sign_is = sign_from b s; digits_are = x })
      (λ _ r. back_digit Power (λ d x. record { sign = []; digits = b ∷ t; text_is = refl; sign_is = inl refl; digits_are = (digit_from b d, x) }) r)
      h

  no_letter : {Q : Type 0} (n : Name) (k : ℕ) (o : Option ℕ) → Next (letter n k o b) → Q
  no_letter n k None h = absurd h
  no_letter n k (Some c) h = from_choice Next (eqb b c) _ None (λ _ x. absurd x) (λ _ x. absurd x) h

  no_text : {Q : Type 0} (o : Option StringState) → Next (option_map Inside o) → Q
  no_text None h = absurd h
  no_text (Some s) h = absurd h

  back : (l : WordState) → Next (more_state l b) → Tail l (b ∷ t)
  back (Open k) h = absurd h
  back (Close k) h = absurd h
  back Comma h = absurd h
  back Colon h = absurd h
  back (Literal n k) h = no_letter n k (slice_get (spelling n) k) h
  back (Inside s) h = no_text (more_string s b) h
  back Minus h = back_minus h
  back Zero h = back_after_int h
  back Whole h = back_whole h
  back Point h = back_digit Fraction (λ d x. (b ∷ x.0, x.1, ap (λ l. b ∷ l) x.2, (digit_from b d, x.3), x.4)) h
  back Fraction h = back_fraction h
  back Exponent h = back_exponent h
  back Sign h = back_digit Power (λ d x. (digit_from b d, x)) h
  back Power h = back_digit Power (λ d x. (digit_from b d, x)) h

ends : (l : WordState) → IsLast l → Tail l []
ends (Open k) h = absurd h
ends (Close k) h = absurd h
ends Comma h = absurd h
ends Colon h = absurd h
ends (Literal n k) h = absurd h
ends (Inside s) h = absurd h
ends Minus h = absurd h
ends Zero h = ([], [], refl, tt, tt)
ends Whole h = ([], [], [], refl, tt, tt, tt)
ends Point h = absurd h
ends Fraction h = ([], [], refl, tt, tt)
ends Exponent h = absurd h
ends Sign h = absurd h
ends Power h = tt

-- what the machine accepts is left of the grammar
pub tail_of_accepts : (t : List ℕ) (o : Option WordState) → Accepts o t → TailAt o t
tail_of_accepts [] None h = absurd h
tail_of_accepts [] (Some l) h = ends l h
tail_of_accepts (b ∷ t) None h = absurd h
tail_of_accepts (b ∷ t) (Some l) h = back b t l (tail_of_accepts t (more_state l b) h)

-- a step whose target is known
take_byte : (l m : WordState) (b : ℕ) (t : List ℕ) → more_state l b ≡ Some m → Accepts (Some m) t → Accepts (Some l) (b ∷ t)
take_byte l m b t e h = subst (λ o. Accepts o t) (sym e) h

digit_step : (l : WordState) (b : ℕ) → is_digit b ≡ true → some_digit l b ≡ Some l
digit_step l b d = ap (λ t. cond t (Some l) None) d

power_accepts : (ds : List ℕ) → AllDigits 10 ds → Accepts (Some Power) ds
power_accepts [] h = tt
power_accepts (d ∷ ds) h = take_byte Power Power d ds (digit_step Power d (digit_to d h.0)) (power_accepts ds h.1)

some_digits_accept : (l m : WordState) (ds : List ℕ) → ((b : ℕ) → is_digit b ≡ true → more_state l b ≡ Some m) → ((t : List ℕ) → AllDigits 10 t → Accepts (Some m) t) → AreSomeDigits ds → Accepts (Some l) ds
some_digits_accept l m [] f g h = absurd h
some_digits_accept l m (d ∷ ds) f g h = take_byte l m d ds (f d (digit_to d h.0)) (g ds h.1)

no_sign : (b : ℕ) → is_digit b ≡ true → is_sign b ≡ false
no_sign b d = grind (arith, nat_tests)

exponent_digit : (b : ℕ) → is_digit b ≡ true → more_state Exponent b ≡ Some Power
exponent_digit b d = ap (λ t. cond t (Some Sign) (some_digit Power b)) (no_sign b d) ∙ digit_step Power b d

sign_then : (x : ℕ) (ds : List ℕ) → is_sign x ≡ true → AreSomeDigits ds → Accepts (Some Exponent) (x ∷ ds)
sign_then x ds s h = take_byte Exponent Sign x ds (ap (λ t. cond t (Some Sign) (some_digit Power x)) s) (some_digits_accept Sign Power ds (digit_step Power) power_accepts h)

power_from_sign : (sign ds : List ℕ) → IsSign sign → AreSomeDigits ds → Accepts (Some Exponent) (sign ++ ds)
power_from_sign sign ds s h = ⊎_elim
    (λ e. subst (λ (x : List ℕ). Accepts (Some Exponent) (x ++ ds)) (sym e) (some_digits_accept Exponent Power ds exponent_digit power_accepts h))
    (λ r. ⊎_elim
    (λ e. subst (λ (x : List ℕ). Accepts (Some Exponent) (x ++ ds)) (sym e) (sign_then 45 ds refl h))
    (λ e. subst (λ (x : List ℕ). Accepts (Some Exponent) (x ++ ds)) (sym e) (sign_then 43 ds refl h))
    r)
    s

is_power_accepts : (s : List ℕ) → IsPower s → Accepts (Some Exponent) s
is_power_accepts s h = subst (Accepts (Some Exponent)) (sym h.text_is) (power_from_sign h.sign h.digits h.sign_is h.digits_are)

e_step : (b : ℕ) → is_e b ≡ true → after_int b ≡ Some Exponent
e_step b e = grind (arith, nat_tests)

no_digit_e : (b : ℕ) → is_e b ≡ true → is_digit b ≡ false
no_digit_e b e = grind (arith, nat_tests)

exponent_accepts : (l : WordState) (e : List ℕ) → IsLast l → ((b : ℕ) → is_e b ≡ true → more_state l b ≡ Some Exponent) → IsExponent e → Accepts (Some l) e
exponent_accepts l [] last f h = last
exponent_accepts l (x ∷ s) last f h = take_byte l Exponent x s (f x (e_to x h.0)) (is_power_accepts s h.1)

fraction_e : (b : ℕ) → is_e b ≡ true → more_state Fraction b ≡ Some Exponent
fraction_e b e = ap (λ t. cond t (Some Fraction) (cond (is_e b) (Some Exponent) None)) (no_digit_e b e) ∙ ap (λ t. cond t (Some Exponent) None) e

whole_e : (b : ℕ) → is_e b ≡ true → more_state Whole b ≡ Some Exponent
whole_e b e = ap (λ t. cond t (Some Whole) (after_int b)) (no_digit_e b e) ∙ e_step b e

-- digits in a state that stays, and what follows them
digits_then : (l : WordState) (ds s : List ℕ) → ((b : ℕ) → is_digit b ≡ true → more_state l b ≡ Some l) → AllDigits 10 ds → Accepts (Some l) s → Accepts (Some l) (ds ++ s)
digits_then l [] s f h a = a
digits_then l (d ∷ ds) s f h a = take_byte l l d (ds ++ s) (f d (digit_to d h.0)) (digits_then l ds s f h.1 a)

fraction_digit : (b : ℕ) → is_digit b ≡ true → more_state Fraction b ≡ Some Fraction
fraction_digit b d = ap (λ t. cond t (Some Fraction) (cond (is_e b) (Some Exponent) None)) d

whole_digit : (b : ℕ) → is_digit b ≡ true → more_state Whole b ≡ Some Whole
whole_digit b d = ap (λ t. cond t (Some Whole) (after_int b)) d

after_accepts : (l : WordState) (f e : List ℕ) → IsLast l → more_state l 46 ≡ Some Point → ((b : ℕ) → is_e b ≡ true → more_state l b ≡ Some Exponent) → IsFraction f → IsExponent e → Accepts (Some l) (f ++ e)
after_accepts l [] e last point exp hf he = exponent_accepts l e last exp he
after_accepts l (p ∷ []) e last point exp hf he = absurd hf.1
after_accepts l (p ∷ d ∷ ds) e last point exp hf he =
    take_byte l Point p (d ∷ (ds ++ e)) (ap (more_state l) hf.0 ∙ point)
    (take_byte Point Fraction d (ds ++ e) (digit_step Fraction d (digit_to d hf.1.0))
    (digits_then Fraction ds e fraction_digit hf.1.1 (exponent_accepts Fraction e tt fraction_e he)))

minus_digit : (b : ℕ) → 49 ≤ b → is_digit b ≡ true → more_state Minus b ≡ Some Whole
minus_digit b h d = grind (arith, nat_tests)

unsigned_accepts : (int f e : List ℕ) → IsInt int → IsFraction f → IsExponent e → Accepts (Some Minus) (int ++ (f ++ e))
unsigned_accepts [] f e hi hf he = absurd hi
unsigned_accepts (d ∷ ds) f e hi hf he = ⊎_elim
    (λ z. subst (λ (x : List ℕ). Accepts (Some Minus) (x ++ (f ++ e))) (sym (λ i. z.0 i ∷ z.1 i)) (after_accepts Zero f e tt refl e_step hf he))
    (λ n. take_byte Minus Whole d (ds ++ (f ++ e)) (minus_digit d n.0 (digit_to d n.1.0)) (digits_then Whole ds (f ++ e) whole_digit n.1.1 (after_accepts Whole f e tt refl whole_e hf he)))
    hi

-- behind a minus the machine accepts a number without one
pub minus_accepts : (s : List ℕ) → IsUnsigned s → Accepts (Some Minus) s
minus_accepts s h = subst (Accepts (Some Minus)) (sym h.3) (unsigned_accepts h.0 h.1 h.2 h.4 h.5 h.6)

-- an unsigned number is one, with a minus or without
pub number_of_unsigned : (minus s : List ℕ) → IsMinus minus → IsUnsigned s → IsNumber (minus ++ s)
number_of_unsigned minus s m u = record {
  parts = record { minus = minus; int = u.0; fraction = u.1; exponent = u.2 };
  text_is = ap (λ (l : List ℕ). minus ++ l) u.3;
  allowed = record { minus = m; int = u.4; fraction = u.5; exponent = u.6 };
}

-- a number is a minus, or none, and what follows it
pub unsigned_of_number : (s : List ℕ) → IsNumber s → (minus rest : List ℕ) × (s ≡ minus ++ rest) × IsMinus minus × IsUnsigned rest
unsigned_of_number s n =
    let p = n.parts in
    let a = n.allowed in
    (p.minus, p.int ++ (p.fraction ++ p.exponent), n.text_is, a.minus, (p.int, p.fraction, p.exponent, refl, a.int, a.fraction, a.exponent))
