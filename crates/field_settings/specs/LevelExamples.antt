-- Worked examples of which settings fit a type: how deep a path may be, and what may stand at its end.
use Rattle.std.specs.Prelude.{ℕ, zero, suc, List, [], ◌∷◌}
use Rattle.field_settings.specs.AppliedSettings.{FitsSetting, message_slot}
use Rattle.field_settings.specs.SettingExamples.{message, no_items, text}
use Rattle.linked_api.specs.LinkedExamples.{library, type_at}
use Rattle.schema.specs.declared.value.Slot.{Slot}

-- a path behind so many sequels of a book
abbrev pub sequels : ℕ → List ℕ → List ℕ
sequels zero path = path
sequels (suc k) path = 9 ∷ sequels k path

-- a slot at a path of a book is a setting that fits
abbrev pub FitsBook : List ℕ → Slot → Type 0
FitsBook path slot = FitsSetting library (type_at 0) (record { path = path; slot = slot })

-- what fits a book
pub record LevelExamplesHold : Type 0 where
  -- 100 messages in one another, the last with a name, are the most
  pub deepest : FitsBook (sequels 99 (1 ∷ [])) (text [])
  pub too_deep : FitsBook (sequels 100 (1 ∷ [])) (text []) → ⊥
  -- a time is a message itself
  pub deepest_time : FitsBook (sequels 98 (5 ∷ [])) (message_slot (message []))
  pub too_deep_time : FitsBook (sequels 99 (5 ∷ [])) (message_slot (message [])) → ⊥
  -- an empty list fits a list, and a string does not; a string fits no number
  pub listed : FitsBook (4 ∷ []) no_items
  pub one_of_list : FitsBook (4 ∷ []) (text []) → ⊥
  pub other_kind : FitsBook (3 ∷ []) (text []) → ⊥
  -- no path leads through a time
  pub through_time : FitsBook (5 ∷ 1 ∷ []) (text []) → ⊥
