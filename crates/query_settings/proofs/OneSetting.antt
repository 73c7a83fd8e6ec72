-- A field that is set has one setting, with all that is set there.
use Rattle.std.proofs.Common.{◌≡◌, ◌∙◌, ◌||◌, ◌++◌, ℕ, Bool, true, false, cond, List, [], ◌∷◌, Option, Some, None, refl, sym, ap}
use Rattle.std.proofs.lemmas.List.Folds.{list_any-append}
use Rattle.std.proofs.lemmas.Slice.Eq.{bytes_eq-Decides}
use Rattle.std.specs.List.{list_any}
use Rattle.std.specs.Str.{bytes_eq}
use Rattle.field_settings.specs.declared.setting.Setting.{Setting}
use Rattle.query_settings.specs.QueryLaws.{setting_at, setting_made}
use Rattle.query_settings.specs.QuerySettings.{Assignment, is_same_field, path_of, setting_of, settings_behind, settings_of}

module _ (path : List ℕ) where
  abbrev is_set : Assignment → Bool
  is_set a = bytes_eq path (path_of a)

  -- behind assignments that do not set a field
  abbrev OneBehind : List Assignment → List Assignment → Type 0
  OneBehind earlier made =
      list_any is_set earlier ≡ false → setting_at (settings_behind earlier made) path ≡ setting_made made path

  both_false : (s t : Bool) → s ≡ false → t ≡ false → (s || (t || false)) ≡ false
  both_false true t e f = absurd (cc e)
  both_false false true e f = absurd (cc f)
  both_false false false e f = refl

  -- a field that is set again was set
  same_set : (a : Assignment) (earlier : List Assignment) → is_set a ≡ true
      → list_any (is_same_field a) earlier ≡ list_any is_set earlier
  same_set a earlier e =
      ap (λ p. list_any (λ (b : Assignment). bytes_eq p (path_of b)) earlier)
      (sym ((bytes_eq-Decides path (path_of a)).0 e))

  one_step : (earlier : List Assignment) (a : Assignment) (later : List Assignment)
      → OneBehind (earlier ++ a ∷ []) later → list_any is_set earlier ≡ false
      → (t : Bool) → list_any (is_same_field a) earlier ≡ t → (b : Bool) → is_set a ≡ b
      → setting_at
      (cond t (settings_behind (earlier ++ a ∷ []) later)
      (setting_of a later ∷ settings_behind (earlier ++ a ∷ []) later)) path
      ≡ cond b (Some (setting_of a later)) (setting_made later path)
  one_step earlier a later h free true e true f =
      let both : true ≡ false = sym e ∙ same_set a earlier f ∙ free in absurd (cc both)
  one_step earlier a later h free true e false f =
      h (list_any-append is_set earlier (a ∷ []) ∙ both_false (list_any is_set earlier) (is_set a) free f)
  one_step earlier a later h free false e true f =
      ap (λ b. cond b (Some (setting_of a later)) (setting_at (settings_behind (earlier ++ a ∷ []) later) path)) f
  one_step earlier a later h free false e false f =
      ap (λ b. cond b (Some (setting_of a later)) (setting_at (settings_behind (earlier ++ a ∷ []) later) path)) f
      ∙ h (list_any-append is_set earlier (a ∷ []) ∙ both_false (list_any is_set earlier) (is_set a) free f)

  one_behind : (earlier made : List Assignment) → OneBehind earlier made
  one_behind earlier [] free = refl
  one_behind earlier (a ∷ later) free =
      one_step earlier a later (one_behind (earlier ++ a ∷ []) later) free (list_any (is_same_field a) earlier) refl
      (is_set a) refl

-- a path has the setting by the first assignment of its field and all that come after
pub one_setting : (made : List Assignment) (path : List ℕ)
    → setting_at (settings_of made) path ≡ setting_made made path
one_setting made path = one_behind path [] made refl
