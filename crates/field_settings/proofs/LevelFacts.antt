-- Which settings fit the book of the examples.
use Rattle.std.proofs.Common.{◌≡◌, ◌<◌, ◌≤◌, ℕ, zero, suc, true, false, List, [], ◌∷◌, codes, Some, arith, refl, sym, ap, subst, ◌∙◌}
use Rattle.std.proofs.lemmas.Str.{IsUtf8-nil}
use Rattle.field_settings.proofs.SetPaths.{empty_fits}
use Rattle.field_settings.specs.AppliedSettings.{IsSettable, LeadsToSlot, message_slot}
use Rattle.field_settings.specs.LevelExamples.{FitsBook, sequels}
use Rattle.field_settings.specs.SettingExamples.{message, no_items, text}
use Rattle.linked_api.specs.FieldPaths.{IsPlainMessage, LeadsInto, is_plain}
use Rattle.linked_api.specs.LinkedExamples.{book, field_of_kind, library, timestamp, type_at}
use Rattle.message_types.specs.declared.fields.Field.{Field}
use Rattle.message_types.specs.declared.fields.Kind.TheVariants.{One as OneOf, Message as MessageOf}
use Rattle.message_types.specs.declared.fields.Presence.TheVariants.{Implicit, Explicit}
use Rattle.message_types.specs.declared.fields.Scalar.TheVariants.{Int32, Text as TextOf}
use Rattle.message_types.specs.declared.fields.Shape.TheVariants.{Single, Many as ManyOf}
use Rattle.message_types.specs.declared.messages.MessageType.{MessageType}
use Rattle.message_types.specs.declared.messages.TypeId.{TypeId}
use Rattle.schema.specs.Validity.{Inner, IsItem, IsScalarItem, valid_within}
use Rattle.schema.specs.declared.value.Item.TheOpen.{Message, Text, One, Many}
use Rattle.schema.specs.declared.value.Item.{out-roll-Item, roll-Item}
use Rattle.schema.specs.declared.value.Slot.{Slot, out-Slot, out-roll-Slot}

abbrev name : Field
name = field_of_kind (codes "name") 1 (OneOf TextOf) Single Implicit

abbrev pages : Field
pages = field_of_kind (codes "pages") 3 (OneOf Int32) Single Implicit

abbrev marks : Field
marks = field_of_kind (codes "marks") 4 (OneOf Int32) ManyOf Implicit

abbrev time : Field
time = field_of_kind (codes "made") 5 (MessageOf (type_at 2)) Single Explicit

abbrev sequel : Field
sequel = field_of_kind (codes "sequel") 9 (MessageOf (type_at 0)) Single Explicit

module _ (inner : Inner) (slot : Slot) where
  -- a path leads on behind a sequel
  behind_one : (n : ℕ) (path : List ℕ) → LeadsToSlot inner library (type_at 0) (n ∷ path) slot
      → LeadsToSlot inner library (type_at 0) (9 ∷ n ∷ path) slot
  behind_one n path h = (
    record { field = sequel; field_is = refl; singular = tt },
    type_at 0,
    (refl, record { message = book; message_is = refl; plain = refl }),
    h,
  )

  behind_all : (k n : ℕ) (path : List ℕ) → LeadsToSlot inner library (type_at 0) (n ∷ path) slot
      → LeadsToSlot inner library (type_at 0) (sequels k (n ∷ path)) slot
  behind_all zero n path h = h
  behind_all (suc zero) n path h = behind_one n path h
  behind_all (suc (suc k)) n path h = behind_one 9 (sequels k (n ∷ path)) (behind_all (suc k) n path h)

  -- and what leads there behind a sequel leads there
  before_one : (n : ℕ) (path : List ℕ) → LeadsToSlot inner library (type_at 0) (9 ∷ n ∷ path) slot
      → LeadsToSlot inner library (type_at 0) (n ∷ path) slot
  before_one n path h =
      let some : Some sequel ≡ Some h.0.field = h.0.field_is in
      let same : sequel ≡ h.0.field = cc some in
      let leads : LeadsInto library sequel.kind h.1 =
      subst (λ (f : Field). LeadsInto library f.kind h.1) (sym same) h.2 in
      subst (λ (t : TypeId). LeadsToSlot inner library t (n ∷ path) slot) (sym leads.0) h.3

  before_all : (k n : ℕ) (path : List ℕ) → LeadsToSlot inner library (type_at 0) (sequels k (n ∷ path)) slot
      → LeadsToSlot inner library (type_at 0) (n ∷ path) slot
  before_all zero n path h = h
  before_all (suc zero) n path h = before_one n path h
  before_all (suc (suc k)) n path h = before_all (suc k) n path (before_one 9 (sequels k (n ∷ path)) h)

text_settable : (inner : Inner) → IsSettable inner name Single (out-Slot (text []))
text_settable inner =
    subst (IsSettable inner name Single) (sym (out-roll-Slot (One (roll-Item (Text [])))))
    (subst (IsScalarItem TextOf) (sym (out-roll-Item (Text []))) IsUtf8-nil)

time_settable : (k : ℕ) → 0 < k → IsSettable (valid_within k library) time Single (out-Slot (message_slot (message [])))
time_settable k some =
    subst (IsSettable (valid_within k library) time Single)
    (sym (out-roll-Slot (One (roll-Item (Message (message []))))))
    (subst (IsItem (valid_within k library) (MessageOf (type_at 2))) (sym (out-roll-Item (Message (message []))))
    (empty_fits k library (type_at 2) some))

no_time : IsSettable (valid_within 0 library) time Single (out-Slot (message_slot (message []))) → ⊥
unfolding valid_within
no_time h =
    subst (IsItem (valid_within 0 library) (MessageOf (type_at 2))) (out-roll-Item (Message (message [])))
    (subst (IsSettable (valid_within 0 library) time Single) (out-roll-Slot (One (roll-Item (Message (message []))))) h)

-- a name in the hundredth message fits
pub deepest_fits : FitsBook (sequels 99 (1 ∷ [])) (text [])
deepest_fits = record {
  levels = omega arith;
  leads = behind_all (valid_within 0 library) (text []) 99 1 [] (name, refl, text_settable (valid_within 0 library));
}

-- and none deeper
pub too_deep_none : FitsBook (sequels 100 (1 ∷ [])) (text []) → ⊥
too_deep_none h = let levels : 101 ≤ 100 = h.levels in omega (arith, levels)

-- a time in the ninety-ninth message fits
pub deepest_time_fits : FitsBook (sequels 98 (5 ∷ [])) (message_slot (message []))
deepest_time_fits = record {
  levels = omega arith;
  leads = behind_all (valid_within 1 library) (message_slot (message [])) 98 5 []
      (time, refl, time_settable 1 (omega arith));
}

-- and none deeper
pub too_deep_time_none : FitsBook (sequels 99 (5 ∷ [])) (message_slot (message [])) → ⊥
too_deep_time_none h =
    let end = before_all (valid_within 0 library) (message_slot (message [])) 99 5 [] h.leads in
    let some : Some time ≡ Some end.0 = end.1 in
    let same : time ≡ end.0 = cc some in
    no_time (subst (λ (f : Field). IsSettable (valid_within 0 library) f f.shape (out-Slot (message_slot (message []))))
    (sym same) end.2)

-- an empty list fits a list
pub listed_fits : FitsBook (4 ∷ []) no_items
listed_fits = record {
  levels = omega arith;
  leads = (
    marks,
    refl,
    subst (IsSettable (valid_within 99 library) marks ManyOf) (sym (out-roll-Slot (Many []))) tt,
  );
}

-- a string fits no list
pub one_of_list_none : FitsBook (4 ∷ []) (text []) → ⊥
one_of_list_none h =
    let some : Some marks ≡ Some h.leads.0 = h.leads.1 in
    let same : marks ≡ h.leads.0 = cc some in
    subst (IsSettable (valid_within 99 library) marks ManyOf) (out-roll-Slot (One (roll-Item (Text []))))
    (subst (λ (f : Field). IsSettable (valid_within 99 library) f f.shape (out-Slot (text []))) (sym same) h.leads.2)

-- and no number
pub other_kind_none : FitsBook (3 ∷ []) (text []) → ⊥
other_kind_none h =
    let some : Some pages ≡ Some h.leads.0 = h.leads.1 in
    let same : pages ≡ h.leads.0 = cc some in
    subst (IsScalarItem Int32) (out-roll-Item (Text []))
    (subst (IsSettable (valid_within 99 library) pages Single) (out-roll-Slot (One (roll-Item (Text []))))
    (subst (λ (f : Field). IsSettable (valid_within 99 library) f f.shape (out-Slot (text []))) (sym same) h.leads.2))

-- no path leads through a time
pub through_time_none : FitsBook (5 ∷ 1 ∷ []) (text []) → ⊥
through_time_none h =
    let some : Some time ≡ Some h.leads.0.field = h.leads.0.field_is in
    let same : time ≡ h.leads.0.field = cc some in
    let leads : LeadsInto library time.kind h.leads.1 =
    subst (λ (f : Field). LeadsInto library f.kind h.leads.1) (sym same) h.leads.2 in
    let here : IsPlainMessage library (type_at 2) = subst (IsPlainMessage library) (sym leads.0) leads.1 in
    let message : Some timestamp ≡ Some here.message = here.message_is in
    let its : timestamp ≡ here.message = cc message in
    let wrong : true ≡ false = ap is_plain (sym here.plain ∙ ap (λ (m : MessageType). m.known) (sym its)) in
    absurd (cc wrong)
