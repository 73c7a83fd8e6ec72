-- Items and slots, opened and rolled; the last of a list; the slots of fields from the back.
use Rattle.std.proofs.Common.{◌≡◌, ℕ, List, [], ◌∷◌, ◌++◌, length, ◌≢◌, Option, Some, None, refl, ap, sym, ◌∙◌, map}
use Rattle.std.specs.List.{IsLastAndRest}
use Rattle.message_types.specs.declared.fields.Field.{Field}
use Rattle.schema.specs.declared.value.Item.{out-Item, roll-Item, roll-out-Item, Item}
use Rattle.schema.specs.declared.key.Key.{Key}
use Rattle.schema.specs.declared.value.Item.TheOpen as opened
use Rattle.schema.specs.declared.value.Slot.{Slot, Many, Pairs, roll-Slot}
use Rattle.schema.specs.declared.value.Slot.TheVariants.{rolls-Many, rolls-Pairs}
use Rattle.wire_format.specs.FieldValues.{last_of, with_some, gather, many, entries_slot}

-- opening items and closing them again changes nothing
pub map_rolled : (is : List Item) → map roll-Item (map out-Item is) ≡ is
map_rolled [] = refl
map_rolled (i ∷ is) = ap (λ (x : Item). x ∷ map roll-Item (map out-Item is)) (roll-out-Item i) ∙ ap (λ (xs : List Item). i ∷ xs) (map_rolled is)

-- the last of a list, or what was before it
abbrev pub last_after : {A : Type 0} → Option A → List A → Option A
last_after o [] = o
last_after o (x ∷ xs) = last_after (Some x) xs

last_some : {A : Type 0} (x : A) (xs : List A) → last_after (Some x) xs ≡ last_of (x ∷ xs)
last_some x [] = refl
last_some x (y ∷ ys) = last_some y ys

-- the last after nothing is the last
pub last_is : {A : Type 0} (xs : List A) → last_after None xs ≡ last_of xs
last_is [] = refl
last_is (x ∷ xs) = last_some x xs

-- the slots of fields, put onto others
abbrev pub gather_onto : (ℕ → Option Slot) → List Field → List (ℕ × Slot) → List (ℕ × Slot)
gather_onto slot [] es = es
gather_onto slot (f ∷ fs) es = with_some (gather_onto slot fs es) f.number (slot f.number)

-- gathering from the last field on begins with it
pub gather_last : (slot : ℕ → Option Slot) (fs : List Field) (f : Field) (es : List (ℕ × Slot)) → gather_onto slot (fs ++ f ∷ []) es ≡ gather_onto slot fs (with_some es f.number (slot f.number))
gather_last slot [] f es = refl
gather_last slot (g ∷ fs) f es = ap (λ (xs : List (ℕ × Slot)). with_some xs g.number (slot g.number)) (gather_last slot fs f es)

-- gathering onto nothing is gathering
pub gather_is : (slot : ℕ → Option Slot) (fs : List Field) → gather_onto slot fs [] ≡ gather slot fs
gather_is slot [] = refl
gather_is slot (f ∷ fs) = ap (λ (xs : List (ℕ × Slot)). with_some xs f.number (slot f.number)) (gather_is slot fs)

-- the slot of a list that is not empty
pub many_some : (is : List Item) → length is ≢ 0 → Some (Many is) ≡ many (map out-Item is)
many_some [] h = absurd (h refl)
many_some (i ∷ is) h = ap (λ (s : Slot). Some s) (sym (ap (λ (xs : List Item). roll-Slot (opened.Many xs)) (map_rolled (i ∷ is)) ∙ rolls-Many (i ∷ is)))

-- the slot of entries that are some
pub entries_some : (es : List (Key × Item)) → length es ≢ 0 → Some (Pairs (record { entries = es })) ≡ entries_slot es
entries_some [] h = absurd (h refl)
entries_some (e ∷ es) h = ap (λ (s : Slot). Some s) (sym (rolls-Pairs (record { entries = e ∷ es })))

-- one field more, from the back
pub gather_step : (slot : ℕ → Option Slot) (left rest : List Field) (f : Field) (es after : List (ℕ × Slot)) (o : Option Slot) (total : List (ℕ × Slot)) → IsLastAndRest left f rest → o ≡ slot f.number → after ≡ with_some es f.number o
    → gather_onto slot left es ≡ total → gather_onto slot rest after ≡ total
gather_step slot left rest f es after o total l q a told =
    ap (gather_onto slot rest) (a ∙ ap (λ (x : Option Slot). with_some es f.number x) q)
    ∙ sym (gather_last slot rest f es) ∙ ap (λ (fs : List Field). gather_onto slot fs es) (sym l.0) ∙ told
