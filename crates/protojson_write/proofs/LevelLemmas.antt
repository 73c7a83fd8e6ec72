-- The text of a message of so many levels and its parts with texts of their own, opened, and the types that are written
-- by their fields.
use Rattle.std.proofs.Common.{◌≡◌, ◌-◌, ℕ, zero, suc, true, List, [], ◌∷◌, Option, Some, None, ◌&&◌, arith, refl, ap, sym, ◌∙◌, slice_get}
use Rattle.std.specs.Prelude.{is_some, unwrap_or}
use Rattle.std.specs.List.{AllByRecursion}
use Rattle.message_types.specs.Types.{field_in, fields_of}
use Rattle.message_types.specs.declared.fields.Field.{Field}
use Rattle.message_types.specs.declared.messages.Known.{Known}
use Rattle.message_types.specs.declared.messages.Known.TheVariants.{Plain, Wrapper, Timestamp, Duration, FieldMask}
use Rattle.message_types.specs.declared.messages.MessageType.{MessageType}
use Rattle.message_types.specs.declared.messages.TypeId.{TypeId}
use Rattle.message_types.specs.declared.messages.Types.{Types}
use Rattle.schema.specs.Value.{slot_at, slots_of}
use Rattle.schema.specs.declared.value.Slot.{Slot}
use Rattle.schema.specs.declared.value.Value.{Value}
use Rattle.protojson_write.specs.JsonOutput.{members_text, message_text, object_text, part_text, text_within}
use Rattle.protojson_write.specs.KnownParts.{KnownTexts, have_texts, own_parts, parts_within, slots_parts}
use Rattle.protojson_write.specs.ScalarOutput.{quoted}
use Rattle.json_meanings.specs.TextTypes.{AreByFields, IsByFields}
use Rattle.json_meanings.specs.SpotTables.{known_in, known_of}

known_at : (ms : List MessageType) (n : ℕ) → AllByRecursion (λ (m : MessageType). IsByFields m.known) ms
    → IsByFields (known_in (slice_get ms n))
known_at [] n h = tt
known_at (m ∷ ms) zero h = h.0
known_at (m ∷ ms) (suc n) h = known_at ms n h.1

-- where all types are written by their fields, so is each
pub by_fields : (types : Types) (id : TypeId) → AreByFields types → IsByFields (known_of types id)
by_fields types id h = known_at types.messages id.0 h

-- no levels have no text
pub text_none : (texts : KnownTexts) (k : ℕ) (types : Types) (id : TypeId) (v : Value) → k ≡ 0
    → text_within texts k types id v ≡ []
unfolding text_within
text_none texts zero types id v z = refl
text_none texts (suc k) types id v z = absurd (omega (arith, z))

-- and each other text is that of a message whose parts have one level less
pub text_open : (texts : KnownTexts) (k : ℕ) (types : Types) (id : TypeId) (v : Value) → (k ≡ 0 → ⊥)
    → text_within texts k types id v
    ≡ message_text texts (text_within texts (k - 1) types) types id (known_of types id) v
unfolding text_within
text_open texts zero types id v nz = absurd (nz refl)
text_open texts (suc k) types id v nz = let e : suc k - 1 ≡ k = omega arith in rw e refl

-- the text of a plain message
pub text_plain : (texts : KnownTexts) (k : ℕ) (types : Types) (id : TypeId) (v : Value) (known : Known)
    (fs : List Field) (es : List (ℕ × Slot))
    → (k ≡ 0 → ⊥) → known ≡ known_of types id → known ≡ Plain → fs ≡ fields_of types id → es ≡ slots_of v
    → text_within texts k types id v ≡ object_text (members_text (text_within texts (k - 1) types) types fs es)
text_plain texts k types id v known fs es nz a b f g =
    text_open texts k types id v nz ∙
    ap (λ x. message_text texts (text_within texts (k - 1) types) types id x v) (sym a ∙ b) ∙ rw (f, g) refl

-- the text of a wrapper
pub text_wrapper : (texts : KnownTexts) (k : ℕ) (types : Types) (id : TypeId) (v : Value) (known : Known)
    (fs : List Field) (o : Option Field) (s : Option Slot)
    → (k ≡ 0 → ⊥) → known ≡ known_of types id → known ≡ Wrapper → fs ≡ fields_of types id → o ≡ field_in fs 1
    → s ≡ slot_at v 1
    → text_within texts k types id v ≡ part_text (text_within texts (k - 1) types) types o s
text_wrapper texts k types id v known fs o s nz a b f g h =
    text_open texts k types id v nz ∙
    ap (λ x. message_text texts (text_within texts (k - 1) types) types id x v) (sym a ∙ b) ∙ rw (g, f, h) refl

-- the text of a message that is written as one
pub text_known : (texts : KnownTexts) (k : ℕ) (types : Types) (id : TypeId) (v : Value) (known : Known)
    → (k ≡ 0 → ⊥) → known ≡ known_of types id → (known ≡ Plain → ⊥) → (known ≡ Wrapper → ⊥)
    → text_within texts k types id v ≡ quoted (unwrap_or (texts known v) [])
text_known texts k types id v known nz a plain wrapper =
    text_open texts k types id v nz ∙
    (ap (λ x. message_text texts (text_within texts (k - 1) types) types id x v) (sym a) ∙ by_known known plain wrapper)
  where
    by_known : (x : Known) → (x ≡ Plain → ⊥) → (x ≡ Wrapper → ⊥)
        → message_text texts (text_within texts (k - 1) types) types id x v ≡ quoted (unwrap_or (texts x v) [])
    by_known Plain p w = absurd (p refl)
    by_known Wrapper p w = absurd (w refl)
    by_known Timestamp p w = refl
    by_known Duration p w = refl
    by_known FieldMask p w = refl

-- no levels have no parts
pub parts_none : (k : ℕ) (types : Types) (id : TypeId) (v : Value) → k ≡ 0 → parts_within k types id v ≡ []
unfolding parts_within
parts_none zero types id v z = refl
parts_none (suc k) types id v z = absurd (omega (arith, z))

parts_open : (k : ℕ) (types : Types) (id : TypeId) (v : Value) → (k ≡ 0 → ⊥)
    → parts_within k types id v
    ≡ own_parts (known_of types id) v (slots_parts (parts_within (k - 1) types) (fields_of types id) (slots_of v))
unfolding parts_within
parts_open zero types id v nz = absurd (nz refl)
parts_open (suc k) types id v nz = let e : suc k - 1 ≡ k = omega arith in rw e refl

-- the parts of a message that is written by its fields are those in its slots
pub parts_fields : (texts : KnownTexts) (k : ℕ) (types : Types) (id : TypeId) (v : Value) (known : Known)
    (fs : List Field) (es : List (ℕ × Slot))
    → (k ≡ 0 → ⊥) → known ≡ known_of types id → IsByFields known → fs ≡ fields_of types id → es ≡ slots_of v
    → have_texts texts (slots_parts (parts_within (k - 1) types) fs es) ≡ have_texts texts (parts_within k types id v)
parts_fields texts k types id v known fs es nz a b f g =
    ap (have_texts texts)
    (sym (parts_open k types id v nz ∙
    (ap (λ x. own_parts x v (slots_parts (parts_within (k - 1) types) (fields_of types id) (slots_of v))) (sym a) ∙
    (by_known known b ∙ rw (f, g) refl))))
  where
    by_known : (x : Known) → IsByFields x
        → own_parts x v (slots_parts (parts_within (k - 1) types) (fields_of types id) (slots_of v))
        ≡ slots_parts (parts_within (k - 1) types) (fields_of types id) (slots_of v)
    by_known Plain h = refl
    by_known Wrapper h = refl
    by_known Timestamp h = absurd h
    by_known Duration h = absurd h
    by_known FieldMask h = absurd h

one_part : (texts : KnownTexts) (known : Known) (v : Value)
    → is_some (texts known v) ≡ have_texts texts ((known, v) ∷ [])
one_part texts known v = by_answer (texts known v)
  where
    by_answer : (o : Option (List ℕ)) → is_some o ≡ (is_some o && true)
    by_answer (Some t) = refl
    by_answer None = refl

-- a message that is written as a text is its own part
pub parts_known : (texts : KnownTexts) (k : ℕ) (types : Types) (id : TypeId) (v : Value) (known : Known)
    → (k ≡ 0 → ⊥) → known ≡ known_of types id → (known ≡ Plain → ⊥) → (known ≡ Wrapper → ⊥)
    → is_some (texts known v) ≡ have_texts texts (parts_within k types id v)
parts_known texts k types id v known nz a plain wrapper =
    one_part texts known v ∙
    (ap (have_texts texts)
    (sym (parts_open k types id v nz ∙
    (ap (λ x. own_parts x v (slots_parts (parts_within (k - 1) types) (fields_of types id) (slots_of v))) (sym a) ∙
    by_known known plain wrapper))))
  where
    by_known : (x : Known) → (x ≡ Plain → ⊥) → (x ≡ Wrapper → ⊥)
        → own_parts x v (slots_parts (parts_within (k - 1) types) (fields_of types id) (slots_of v)) ≡ (x, v) ∷ []
    by_known Plain p w = absurd (p refl)
    by_known Wrapper p w = absurd (w refl)
    by_known Timestamp p w = refl
    by_known Duration p w = refl
    by_known FieldMask p w = refl
