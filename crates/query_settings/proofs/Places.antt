-- Where the settings of paths stand, and an item more in one of them.
use Rattle.std.proofs.Common.{◌≡◌, ◌∙◌, ◌<◌, ◌+◌, ◌++◌, ℕ, zero, suc, Bool, true, false, cond, List, [], ◌∷◌, length, get_or, Option, Some, None, add-zero, arith, refl, sym, ap, subst}
use Rattle.std.proofs.lemmas.Slice.Eq.{bytes_eq-Decides}
use Rattle.std.specs.BTreeMap as tree
use Rattle.std.specs.List.{position_from}
use Rattle.std.specs.Prelude.{slice_set}
use Rattle.std.specs.Str.{bytes_eq}
use Rattle.std.specs.declared.alloc.Global.{Global}
use Rattle.std.specs.declared.vec.Vec.{Vec}
use Rattle.base.proofs.TextLemmas.{bytes_eq_swap}
use Rattle.field_settings.specs.declared.setting.Setting.{Setting}
use Rattle.query_settings.proofs.NumberMaps.{number_put, vec_cmp}
use Rattle.query_settings.specs.QuerySteps.{ArePlaces, NumberMap, extended_at, extended_setting, number_at, place_in}
use Rattle.schema.specs.declared.value.Item.{Item}

-- the first of two places
abbrev first_of : Option ℕ → Option ℕ → Option ℕ
first_of None o = o
first_of (Some k) o = Some k

if_none : (b : Bool) (k : ℕ) (o r : Option ℕ) → cond b (Some k) (first_of o r) ≡ first_of (cond b (Some k) o) r
if_none true k o r = refl
if_none false k o r = refl

-- the place in a list with an item more
position_more : {X : Type 0} (t : X → Bool) (k : ℕ) (xs : List X) (x : X)
    → position_from t k (xs ++ x ∷ [])
    ≡ first_of (position_from t k xs) (cond (t x) (Some (k + length xs)) None)
position_more t k [] x = ap (λ n. cond (t x) (Some n) None) (sym (add-zero k))
position_more t k (y ∷ xs) x =
    ap (cond (t y) (Some k))
    (position_more t (k + 1) xs x
    ∙ ap (λ n. first_of (position_from t (k + 1) xs) (cond (t x) (Some n) None))
    (let e : (k + 1) + length xs ≡ k + length (y ∷ xs) = omega arith in e))
    ∙ if_none (t y) k (position_from t (k + 1) xs) (cond (t x) (Some (k + length (y ∷ xs))) None)

-- a map into which the place of a new setting was put tells the places of all
pub places_more : (m n : NumberMap) (key : Vec ℕ Global) (settings : List Setting) (s : Setting) (place : ℕ)
    → place ≡ length settings → key.items ≡ s.path → tree.Updates vec_cmp m n key (Some place) → ArePlaces m settings
    → place_in settings key.items ≡ None → ArePlaces n (settings ++ s ∷ [])
places_more m n key settings s place at path put held absent q =
    number_put m n key place put q ∙ by_test (bytes_eq key.items q) refl
    ∙ sym (position_more (λ (x : Setting). bytes_eq q x.path) 0 settings s)
  where
    own : bytes_eq q s.path ≡ bytes_eq key.items q
    own = ap (bytes_eq q) (sym path) ∙ bytes_eq_swap q key.items

    at_end : place ≡ 0 + length settings
    at_end = omega arith

    by_test : (t : Bool) → bytes_eq key.items q ≡ t
        → cond t (Some place) (number_at m q)
        ≡ first_of (place_in settings q) (cond (bytes_eq q s.path) (Some (0 + length settings)) None)
    by_test true e =
        let none : place_in settings q ≡ None =
        ap (place_in settings) (sym ((bytes_eq-Decides key.items q).0 e)) ∙ absent in
        ap Some at_end
        ∙ sym (ap (λ o. first_of o (cond (bytes_eq q s.path) (Some (0 + length settings)) None)) none
        ∙ ap (λ b. cond b (Some (0 + length settings)) None) (own ∙ e))
    by_test false e =
        held q ∙ sym (ap (λ b. first_of (place_in settings q) (cond b (Some (0 + length settings)) None)) (own ∙ e)
        ∙ nothing_behind (place_in settings q))
      where
        nothing_behind : (o : Option ℕ) → first_of o None ≡ o
        nothing_behind None = refl
        nothing_behind (Some k) = refl

-- a setting in place of that which it extends
pub extended_there : (settings : List Setting) (k : ℕ) (s : Setting) (i : Item) → k < length settings
    → s ≡ get_or settings k s → slice_set settings k (extended_setting s i) ≡ extended_at settings k i
extended_there [] k s i lt e = absurd (omega arith)
extended_there (x ∷ settings) zero s i lt e = ap (λ y. extended_setting y i ∷ settings) e
extended_there (x ∷ settings) (suc k) s i lt e =
    ap (λ ys. x ∷ ys) (extended_there settings k s i (omega arith) e)
