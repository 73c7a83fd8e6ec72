-- Sets of numbers: their order, and what one number more changes.
use Rattle.std.proofs.Common.{◌≡◌, ◌<◌, ◌||◌, ℕ, ℤ, ◌<ℤ◌, true, cond, nat_eq, refl, sym, ap, ◌∙◌, arith}
use Rattle.std.proofs.lemmas.Bool.Decides.{Decides-int_eq, nat_tests, same_from_decides}
use Rattle.std.proofs.lemmas.Cmp.{int_ranked, ranked}
use Rattle.std.proofs.lemmas.Int.{ints}
use Rattle.std.specs.BTreeSet.{BTreeSet, Updates, contains}
use Rattle.std.specs.Bool.{Decides}
use Rattle.std.specs.Ordering.{int_cmp, int_eq, is_eq, nat_cmp}
use Rattle.std.specs.declared.cmp.Ordering.{Ordering}
use Rattle.std.specs.declared.cmp.Ordering.TheVariants.{Less, Equal, Greater}
use Rattle.base.proofs.TextLemmas.{or_swap}

nat_tie : (x y : ℕ) (r : Ordering) → r ≡ nat_cmp x y → is_eq r ≡ nat_eq y x
nat_tie x y Less e = let h : x < y = ranked x y Less e in grind (arith, nat_tests, h)
nat_tie x y Equal e = let h : x ≡ y = ranked x y Equal e in grind (arith, nat_tests, h)
nat_tie x y Greater e = let h : y < x = ranked x y Greater e in grind (arith, nat_tests, h)

-- two numbers tie where they are equal
pub nat_tied : (x y : ℕ) → is_eq (nat_cmp x y) ≡ nat_eq y x
nat_tied x y = nat_tie x y (nat_cmp x y) refl

int_ties : (x y : ℤ) (r : Ordering) → r ≡ int_cmp x y → Decides (is_eq r) (y ≡ x)
int_ties x y Less e = let h : x <ℤ y = int_ranked x y Less e in ((λ t. absurd (cc t)), (λ s. absurd (omega (arith, ints, h, s))))
int_ties x y Equal e = let h : x ≡ y = int_ranked x y Equal e in ((λ t. sym h), (λ s. refl))
int_ties x y Greater e = let h : y <ℤ x = int_ranked x y Greater e in ((λ t. absurd (cc t)), (λ s. absurd (omega (arith, ints, h, s))))

-- two integers tie where they are equal
pub int_tied : (x y : ℤ) → is_eq (int_cmp x y) ≡ int_eq y x
int_tied x y = same_from_decides (is_eq (int_cmp x y)) (int_eq y x) (int_ties x y (int_cmp x y) refl) (Decides-int_eq y x)

-- after a number is put into a set, the set has that number and what it had
pub nat_set_more : (s n : BTreeSet ℕ) (k : ℕ) → Updates nat_cmp s n k true → (q : ℕ) → contains nat_cmp n q ≡ (contains nat_cmp s q || nat_eq q k)
nat_set_more s n k u q = u.0 q ∙ ap (λ b. cond b true (contains nat_cmp s q)) (nat_tied k q) ∙ or_swap (nat_eq q k) (contains nat_cmp s q)

-- after an integer is put into a set, the set has that integer and what it had
pub int_set_more : (s n : BTreeSet ℤ) (k : ℤ) → Updates int_cmp s n k true → (q : ℤ) → contains int_cmp n q ≡ (contains int_cmp s q || int_eq q k)
int_set_more s n k u q = u.0 q ∙ ap (λ b. cond b true (contains int_cmp s q)) (int_tied k q) ∙ or_swap (int_eq q k) (contains int_cmp s q)
