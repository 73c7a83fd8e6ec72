-- The bits of the methods of the bindings that fit a path, one binding on.
use Rattle.std.proofs.Common.{◌≡◌, ◌≢◌, ◌↔◌, inl, inr, ◌++◌, ℕ, zero, suc, List, [], ◌∷◌, length, map, get_or, slice_get, Option, Some, None, IsSome, IsNone, MatchOption, unwrap_or, refl, sym, ap, ◌∙◌, subst, arith}
use Rattle.std.proofs.lemmas.Bool.{cases_eq}
use Rattle.std.proofs.lemmas.Nat.Bits.{bit_at-zero}
use Rattle.std.specs.Int.{bit_at}
use Rattle.http_rules.specs.TemplateMatch.{Fits}
use Rattle.http_rules.specs.declared.template.Binding.{Binding}
use Rattle.path_router.proofs.SearchLemmas.{new_at, old_or_new, still_at}
use Rattle.path_router.proofs.MethodLemmas.{one_number}
use Rattle.path_router.specs.BindingMethods.{AreRising, methods_of}
use Rattle.path_router.specs.RouteChoice.{IsMethodThatFits, IsNotFound, SomeFits}

-- the method of this number, among these, is that of a binding that fits
abbrev pub IsNumberThatFits : List (List ℕ) → List Binding → List ℕ → ℕ → Type 0
IsNumberThatFits methods bindings path number =
    (fit : SomeFits bindings path) × (slice_get methods number ≡ Some fit.binding.method)

-- a binding that fits is still there
abbrev pub still_fits : (bs : List Binding) (b : Binding) (path : List ℕ) → SomeFits bs path
    → SomeFits (bs ++ b ∷ []) path
still_fits bs b path f =
    record {
      index = f.index;
      binding = f.binding;
      binding_is =
          still_at bs (b ∷ []) f.index f.binding f.binding_is;
      fits = f.fits;
    }

-- the binding more fits
abbrev pub new_fits : (bs : List Binding) (b : Binding) (path : List ℕ) → Fits b.template path
    → SomeFits (bs ++ b ∷ []) path
new_fits bs b path f = record { index = length bs; binding = b; binding_is = new_at bs b; fits = f }

-- none fits where none did and the binding more does not
pub none_more : (bs : List Binding) (b : Binding) (path : List ℕ) → IsNotFound bs path → (Fits b.template path → ⊥)
    → IsNotFound (bs ++ b ∷ []) path
none_more bs b path none refuses i c e f =
    elim (old_or_new bs b i c e) [
      | inl old ↦ none i c old f
      | inr new ↦
          refuses (subst (λ (z : Binding). Fits z.template path) (sym new.1) f)
    ]

-- the numbers that fit with a binding more that does not are those before
pub same_numbers : (methods : List (List ℕ)) (bs : List Binding) (b : Binding) (path : List ℕ) (k : ℕ)
    → (Fits b.template path → ⊥)
    → IsNumberThatFits methods bs path k ↔ IsNumberThatFits methods (bs ++ b ∷ []) path k
same_numbers methods bs b path k refuses = (
  (λ h. (still_fits bs b path h.0, h.1)),
  (λ h. elim (old_or_new bs b h.0.index h.0.binding h.0.binding_is) [
    | inl old ↦ (record { index = h.0.index; binding = h.0.binding; binding_is = old; fits = h.0.fits }, h.1)
    | inr new ↦ absurd (refuses (subst (λ (z : Binding). Fits z.template path) (sym new.1) h.0.fits))
  ]),
)

-- with a binding more that fits, its method's number is one of them
pub more_numbers : (methods : List (List ℕ)) (bs : List Binding) (b : Binding) (path : List ℕ) (n k : ℕ)
    → Fits b.template path → slice_get methods n ≡ Some b.method → k ≡ n
    → IsNumberThatFits methods (bs ++ b ∷ []) path k
more_numbers methods bs b path n k f at e = (new_fits bs b path f, ap (slice_get methods) e ∙ at)

-- and every other number is one of those before
pub other_numbers : (methods : List (List ℕ)) (bs : List Binding) (b : Binding) (path : List ℕ) (n k : ℕ)
    → ((i : ℕ) (m : List ℕ) → slice_get methods i ≡ Some m → slice_get methods n ≡ Some m → i ≡ n)
    → slice_get methods n ≡ Some b.method → k ≢ n → IsNumberThatFits methods bs path k
    ↔ IsNumberThatFits methods (bs ++ b ∷ []) path k
other_numbers methods bs b path n k one at other = (
  (λ h. (still_fits bs b path h.0, h.1)),
  (λ h. elim (old_or_new bs b h.0.index h.0.binding h.0.binding_is) [
    | inl old ↦ (record { index = h.0.index; binding = h.0.binding; binding_is = old; fits = h.0.fits }, h.1)
    | inr new ↦ absurd (other (one k b.method (h.1 ∙ ap (λ (z : Binding). Some z.method) (sym new.1)) at))
  ]),
)

-- the bits tell which of these methods are those of the bindings that fit; there are none where none fits
pub record AreBits (methods : List (List ℕ)) (bs : List Binding) (path : List ℕ) (bits : Option ℕ) : Type 0 where
  pub none : IsNone bits → IsNotFound bs path
  pub some : IsSome bits → SomeFits bs path
  pub numbers : (k : ℕ) → (bit_at (unwrap_or bits 0) k ≡ 1) ↔ IsNumberThatFits methods bs path k

-- no bits are set where there are no bindings
pub bits_at_first : (methods : List (List ℕ)) (path : List ℕ) → AreBits methods [] path None
bits_at_first methods path = record {
  none = λ n i b e f. absurd (cc (e));
  some = λ s. absurd (cc (s));
  numbers =
      λ k. (
        (λ one. let low : bit_at 0 k ≡ 0 = bit_at-zero k in absurd (omega (arith, low, one))),
        (λ h. absurd (cc (h.0.binding_is))),
      );
}

-- a binding more that fits sets the bit of its method
pub bits_with : (methods : List (List ℕ)) (bs : List Binding) (b : Binding) (path : List ℕ) (bits : Option ℕ)
    (n new : ℕ) → AreRising methods → AreBits methods bs path bits
    → Fits b.template path → slice_get methods n ≡ Some b.method → bit_at new n ≡ 1
    → ((i : ℕ) → i ≢ n → bit_at new i ≡ bit_at (unwrap_or bits 0) i)
    → AreBits methods (bs ++ b ∷ []) path (Some new)
bits_with methods bs b path bits n new r a f at own others = record {
  none = λ s. absurd (cc (s));
  some = λ s. new_fits bs b path f;
  numbers = λ k. elim (cases_eq k n) [
    | inl same ↦ ((λ one. more_numbers methods bs b path n k f at same), (λ h. ap (bit_at new) same ∙ own))
    | inr other ↦
        let on = other_numbers methods bs b path n k (λ i m e g. one_number methods i n m r e g) at other in
        ((λ one. on.0 ((a.numbers k).0 (sym (others k other) ∙ one))), (λ h. others k other ∙ (a.numbers k).1 (on.1 h)))
  ];
}

-- a binding more that does not fit changes nothing
pub bits_without : (methods : List (List ℕ)) (bs : List Binding) (b : Binding) (path : List ℕ) (bits : Option ℕ)
    → AreBits methods bs path bits
    → (Fits b.template path → ⊥) → AreBits methods (bs ++ b ∷ []) path bits
bits_without methods bs b path bits a refuses = record {
  none = λ s. none_more bs b path (a.none s) refuses;
  some = λ s. still_fits bs b path (a.some s);
  numbers = λ k. let on = same_numbers methods bs b path k refuses in
      ((λ one. on.0 ((a.numbers k).0 one)), (λ h. (a.numbers k).1 (on.1 h)));
}

-- what the bits tell of all bindings
pub bits_told : (bs : List Binding) (path : List ℕ) (bits : Option ℕ) → AreBits (methods_of bs) bs path bits
    → MatchOption bits (IsNotFound bs path)
    (λ n. SomeFits bs path × ((i : ℕ) → (bit_at n i ≡ 1) ↔ IsMethodThatFits bs path i))
bits_told bs path None a = a.none refl
bits_told bs path (Some n) a = (a.some refl, a.numbers)

-- the number of a binding's method, among numbers of all
pub number_at : (methods : List (List ℕ)) (ns : List ℕ) (bs : List Binding) (i : ℕ) (b : Binding) (d : ℕ)
    → map (λ n. slice_get methods n) ns ≡ map (λ (c : Binding). Some c.method) bs
    → slice_get bs i ≡ Some b → slice_get methods (get_or ns i d) ≡ Some b.method
number_at methods ns [] i b d e at = absurd (cc (at))
number_at methods [] (c ∷ bs) i b d e at = absurd (cc (e))
number_at methods (n ∷ ns) (c ∷ bs) zero b d e at = let own : slice_get methods n ≡ Some c.method = cc (e) in
    let same : c ≡ b = cc (at) in own ∙ ap (λ (z : Binding). Some z.method) same
number_at methods (n ∷ ns) (c ∷ bs) (suc i) b d e at =
    let rest : map (λ n. slice_get methods n) ns ≡ map (λ (c : Binding). Some c.method) bs = cc (e) in
    number_at methods ns bs i b d rest at
