-- Types that are written by their fields alone (`types_by_fields_have_no_texts`).
use Rattle.std.proofs.Common.{◌↔◌, ℕ, zero, suc, List, [], ◌∷◌, slice_get}
use Rattle.std.specs.List.{AllByRecursion}
use Rattle.message_types.specs.declared.messages.Known.{Known}
use Rattle.message_types.specs.declared.messages.Known.TheVariants.{Plain, Wrapper, Timestamp, Duration, FieldMask}
use Rattle.message_types.specs.declared.messages.MessageType.{MessageType}
use Rattle.message_types.specs.declared.messages.TypeId.{TypeId}
use Rattle.message_types.specs.declared.messages.Types.{Types}
use Rattle.json_meanings.specs.SpotTables.{known_in, known_of}
use Rattle.json_meanings.specs.TextTypes.{AreByFields, IsByFields, IsTextType}

not_both : (known : Known) → IsByFields known → IsTextType known → ⊥
not_both Plain h t = t
not_both Wrapper h t = t
not_both Timestamp h t = h
not_both Duration h t = h
not_both FieldMask h t = h

one_of_both : (known : Known) → (IsTextType known → ⊥) → IsByFields known
one_of_both Plain never = tt
one_of_both Wrapper never = tt
one_of_both Timestamp never = absurd (never tt)
one_of_both Duration never = absurd (never tt)
one_of_both FieldMask never = absurd (never tt)

none_at : (ms : List MessageType) (n : ℕ) → AllByRecursion (λ (m : MessageType). IsByFields m.known) ms
    → IsTextType (known_in (slice_get ms n)) → ⊥
none_at [] n h t = t
none_at (m ∷ ms) zero h t = not_both m.known h.0 t
none_at (m ∷ ms) (suc n) h t = none_at ms n h.1 t

all_at : (ms : List MessageType) → ((n : ℕ) → IsTextType (known_in (slice_get ms n)) → ⊥)
    → AllByRecursion (λ (m : MessageType). IsByFields m.known) ms
all_at [] never = tt
all_at (m ∷ ms) never = (one_of_both m.known (never 0), all_at ms (λ n. never (suc n)))

-- types are written by their fields alone exactly where none is written as a text
pub by_fields : (types : Types) → AreByFields types ↔ ((id : TypeId) → IsTextType (known_of types id) → ⊥)
by_fields types = (
  λ h id t. none_at types.messages id.0 h t,
  λ never. all_at types.messages (λ n t. never (record { 0 = n }) t),
)
