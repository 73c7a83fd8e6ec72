-- Whether a name clashes with those that were named and set, told by what has come of them.
use Rattle.std.proofs.Common.{◌≡◌, ◌∙◌, ◌&&◌, ◌||◌, ◌+◌, ◌++◌, ℕ, Bool, true, false, cond, List, [], ◌∷◌, Option, Some, None, is_some, refl, sym, ap}
use Rattle.std.proofs.lemmas.List.Folds.{list_any-append}
use Rattle.std.proofs.lemmas.Slice.Eq.{bytes_eq-Decides}
use Rattle.std.specs.List.{list_any, position_from}
use Rattle.std.specs.Str.{bytes_eq}
use Rattle.field_settings.specs.declared.setting.Setting.{Setting}
use Rattle.linked_api.specs.FieldPaths.{is_singular}
use Rattle.query_settings.specs.ParameterFaults.{chooses_other, clashes}
use Rattle.query_settings.specs.QuerySettings.{Assignment, is_same_field, path_of, setting_of, settings_behind, settings_of, targets_of}
use Rattle.query_settings.specs.QuerySteps.{choices_made, place_in}
use Rattle.query_settings.specs.QueryTargets.{Choice, choices_of, is_other, numbers_of}
use Rattle.query_settings.specs.declared.targets.Target.{Target}

-- ---- a path that is set has a setting

module _ (q : List ℕ) where
  abbrev is_set : Assignment → Bool
  is_set a = bytes_eq q (path_of a)

  abbrev has_path : Setting → Bool
  has_path s = bytes_eq q s.path

  set_again : (e s a l : Bool) → ((e || (a || false)) || s) ≡ ((e || (a || false)) || l) → (a ≡ true → e ≡ true)
      → (e || s) ≡ (e || (a || l))
  set_again true s a l h f = refl
  set_again false s true l h f = absurd (cc (f refl))
  set_again false s false l h f = h

  set_first : (e s a l : Bool) → ((e || (a || false)) || s) ≡ ((e || (a || false)) || l)
      → (e || (a || s)) ≡ (e || (a || l))
  set_first true s a l h = refl
  set_first false s true l h = refl
  set_first false s false l h = h

  abbrev SetBehind : List Assignment → List Assignment → Type 0
  SetBehind earlier made =
      (list_any is_set earlier || list_any has_path (settings_behind earlier made))
      ≡ (list_any is_set earlier || list_any is_set made)

  any_step : (earlier : List Assignment) (a : Assignment) (later : List Assignment)
      → SetBehind (earlier ++ a ∷ []) later → (t : Bool) → list_any (is_same_field a) earlier ≡ t
      → (list_any is_set earlier
      || list_any has_path
      (cond t (settings_behind (earlier ++ a ∷ []) later)
      (setting_of a later ∷ settings_behind (earlier ++ a ∷ []) later)))
      ≡ (list_any is_set earlier || (is_set a || list_any is_set later))
  any_step earlier a later h t e = by_test t e
    where
      xs : List Setting
      xs = settings_behind (earlier ++ a ∷ []) later

      next : ((list_any is_set earlier || (is_set a || false)) || list_any has_path xs)
          ≡ ((list_any is_set earlier || (is_set a || false)) || list_any is_set later)
      next =
          ap (λ u. u || list_any has_path xs) (sym (list_any-append is_set earlier (a ∷ []))) ∙ h
          ∙ ap (λ u. u || list_any is_set later) (list_any-append is_set earlier (a ∷ []))

      by_test : (u : Bool) → list_any (is_same_field a) earlier ≡ u
          → (list_any is_set earlier || list_any has_path (cond u xs (setting_of a later ∷ xs)))
          ≡ (list_any is_set earlier || (is_set a || list_any is_set later))
      by_test true f =
          set_again (list_any is_set earlier) (list_any has_path xs) (is_set a) (list_any is_set later) next
          (λ u. ap (λ p. list_any (λ (b : Assignment). bytes_eq p (path_of b)) earlier)
          ((bytes_eq-Decides q (path_of a)).0 u) ∙ f)
      by_test false f =
          set_first (list_any is_set earlier) (list_any has_path xs) (is_set a) (list_any is_set later) next

  any_behind : (earlier made : List Assignment) → SetBehind earlier made
  any_behind earlier [] = refl
  any_behind earlier (a ∷ later) =
      any_step earlier a later (any_behind (earlier ++ a ∷ []) later) (list_any (is_same_field a) earlier) refl

some_position : {X : Type 0} (t : X → Bool) (k : ℕ) (xs : List X) → is_some (position_from t k xs) ≡ list_any t xs
some_position t k [] = refl
some_position t k (x ∷ xs) = pick (t x) (some_position t (k + 1) xs)
  where
    pick : (b : Bool) → is_some (position_from t (k + 1) xs) ≡ list_any t xs
        → is_some (cond b (Some k) (position_from t (k + 1) xs)) ≡ (b || list_any t xs)
    pick true h = refl
    pick false h = h

-- a setting has a path where it was set
place_some : (made : List Assignment) (q : List ℕ)
    → is_some (place_in (settings_of made) q) ≡ list_any (λ (a : Assignment). bytes_eq q (path_of a)) made
place_some made q =
    some_position (λ (s : Setting). bytes_eq q s.path) 0 (settings_of made) ∙ any_behind q [] made

-- ---- choices

mixed : (a b x y : Bool) → ((a || b) || (x || y)) ≡ ((a || x) || (b || y))
mixed true b x y = refl
mixed false true true y = refl
mixed false true false y = refl
mixed false false true y = refl
mixed false false false y = refl

chooses_both : (xs ys cs : List Choice) → chooses_other (xs ++ ys) cs ≡ (chooses_other xs cs || chooses_other ys cs)
chooses_both xs ys [] = refl
chooses_both xs ys (c ∷ cs) =
    ap (λ t. t || chooses_other (xs ++ ys) cs) (list_any-append (is_other c) xs ys)
    ∙ ap (λ t. (list_any (is_other c) xs || list_any (is_other c) ys) || t) (chooses_both xs ys cs)
    ∙ mixed (list_any (is_other c) xs) (list_any (is_other c) ys) (chooses_other xs cs) (chooses_other ys cs)

chooses_nothing : (cs : List Choice) → chooses_other [] cs ≡ false
chooses_nothing [] = refl
chooses_nothing (c ∷ cs) = chooses_nothing cs

clash_step : (s e c es cs : Bool)
    → (((s && e) || c) || ((s && es) || cs)) ≡ ((s && (e || es)) || (c || cs))
clash_step true e c es cs = mixed e c es cs
clash_step false e c es cs = refl

clash_none : (s n : Bool) → n ≡ false → false ≡ ((s && false) || n)
clash_none true n h = sym h
clash_none false n h = sym h

-- whether a name clashes is told by the settings and by what was chosen
pub clash_told : (t : Target) (made : List Assignment)
    → list_any (clashes t) (targets_of made)
    ≡ ((is_singular t.shape && list_any (λ (a : Assignment). bytes_eq (numbers_of t.steps) (path_of a)) made)
    || chooses_other (choices_made made) (choices_of t))
clash_told t [] = clash_none (is_singular t.shape) (chooses_other [] (choices_of t)) (chooses_nothing (choices_of t))
clash_told t (a ∷ made) =
    ap (λ z. clashes t a.target || z) (clash_told t made)
    ∙ clash_step (is_singular t.shape) (bytes_eq (numbers_of t.steps) (path_of a))
    (chooses_other (choices_of a.target) (choices_of t))
    (list_any (λ (b : Assignment). bytes_eq (numbers_of t.steps) (path_of b)) made)
    (chooses_other (choices_made made) (choices_of t))
    ∙ ap (λ z. (is_singular t.shape
    && (bytes_eq (numbers_of t.steps) (path_of a)
    || list_any (λ (b : Assignment). bytes_eq (numbers_of t.steps) (path_of b)) made)) || z)
    (sym (chooses_both (choices_of a.target) (choices_made made) (choices_of t)))

set_and_place : (s : Bool) (made : List Assignment) (q : List ℕ) (c : Bool)
    → ((s && list_any (λ (a : Assignment). bytes_eq q (path_of a)) made) || c)
    ≡ ((s && is_some (place_in (settings_of made) q)) || c)
set_and_place s made q c = ap (λ t. (s && t) || c) (sym (place_some made q))

-- the same by the place of a setting
pub clash_by_place : (t : Target) (made : List Assignment)
    → list_any (clashes t) (targets_of made)
    ≡ ((is_singular t.shape && is_some (place_in (settings_of made) (numbers_of t.steps)))
    || chooses_other (choices_made made) (choices_of t))
clash_by_place t made =
    clash_told t made
    ∙ set_and_place (is_singular t.shape) made (numbers_of t.steps) (chooses_other (choices_made made) (choices_of t))

-- what does not clash chooses no other member
pub no_other : (t : Target) (made : List Assignment) → list_any (clashes t) (targets_of made) ≡ false
    → chooses_other (choices_made made) (choices_of t) ≡ false
no_other t made h =
    behind (is_singular t.shape && list_any (λ (a : Assignment). bytes_eq (numbers_of t.steps) (path_of a)) made)
    (chooses_other (choices_made made) (choices_of t)) (sym (clash_told t made) ∙ h)
  where
    behind : (s c : Bool) → (s || c) ≡ false → c ≡ false
    behind true c g = absurd (cc g)
    behind false c g = g
