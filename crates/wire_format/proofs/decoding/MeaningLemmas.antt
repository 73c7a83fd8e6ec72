-- What bytes mean, one level opened.
use Rattle.std.proofs.Common.{◌≡◌, ◌-◌, ◌≤◌, ℕ, zero, suc, List, arith, refl, ap, ap₂, sym, subst, ◌∙◌, Some}
use Rattle.std.specs.Prelude.{unwrap_or}
use Rattle.schema.specs.Value.{slots_of}
use Rattle.schema.specs.declared.key.Key.{Key}
use Rattle.message_types.specs.declared.fields.Field.{Field}
use Rattle.message_types.specs.declared.fields.Kind.{Kind}
use Rattle.message_types.specs.declared.fields.Kind.TheVariants.{One as OneOf}
use Rattle.message_types.specs.declared.fields.Scalar.{Scalar}
use Rattle.message_types.specs.declared.messages.Types.{Types}
use Rattle.schema.specs.declared.value.Item.{out-Item, roll-Item, roll-out-Item, Item}
use Rattle.schema.specs.declared.value.Value.{Value}
use Rattle.schema.specs.declared.value.Slot.{Slot}
use Rattle.wire_format.specs.FieldValues.{Inner, payloads, singular, key_of, default_item, entry_by, slot_of, gather, meaning_within}
use Rattle.wire_records.specs.WireRecord.{Record, records}

-- what bytes mean as a message is what their records say
pub message_open : (k : ℕ) (types : Types) (fields : List Field) (bytes : List ℕ) (rs : List Record) (v : Value) → 1 ≤ k → rs ≡ records (k - 1) 0 bytes → slots_of v ≡ gather (slot_of (meaning_within (k - 1) types) types fields rs) fields
    → v ≡ (meaning_within k types).message fields bytes
unfolding meaning_within
message_open zero types fields bytes rs v l q h = absurd (omega arith)
message_open (suc k) types fields bytes rs v l q h =
    let e : suc k - 1 ≡ k = omega arith in
    let g : gather (slot_of (meaning_within (suc k - 1) types) types fields rs) fields ≡ gather (slot_of (meaning_within k types) types fields (records k 0 bytes)) fields = rw (q, e) refl in
    ap (λ (es : List (ℕ × Slot)). record { fields = es }) (h ∙ g)

-- an entry is its key and its item
pub entry_is : (inner : Inner) (types : Types) (s : Scalar) (kind : Kind) (rs xs ys : List Record) (key : Key) (first item : Item) → xs ≡ rs → ys ≡ rs → key ≡ key_of (out-Item first)
    → out-Item first ≡ unwrap_or (singular inner types (OneOf s) (payloads 1 xs)) (default_item types (OneOf s)) → out-Item item ≡ unwrap_or (singular inner types kind (payloads 2 ys)) (default_item types kind)
    → Some (key, item) ≡ entry_by inner types s kind rs
entry_is inner types s kind rs xs ys key first item e f p q r =
    let q' : out-Item first ≡ unwrap_or (singular inner types (OneOf s) (payloads 1 rs)) (default_item types (OneOf s)) = subst (λ (x : List Record). out-Item first ≡ unwrap_or (singular inner types (OneOf s) (payloads 1 x)) (default_item types (OneOf s))) e q in
    let r' : out-Item item ≡ unwrap_or (singular inner types kind (payloads 2 rs)) (default_item types kind) = subst (λ (x : List Record). out-Item item ≡ unwrap_or (singular inner types kind (payloads 2 x)) (default_item types kind)) f r in
    ap₂ (λ (x : Key) (y : Item). Some (x, y)) (p ∙ ap key_of q') (sym (roll-out-Item item) ∙ ap roll-Item r')

-- what bytes mean as an entry is what their records say
pub entry_open : (k : ℕ) (types : Types) (s : Scalar) (kind : Kind) (bytes : List ℕ) (rs : List Record) → 1 ≤ k → rs ≡ records (k - 1) 0 bytes
    → entry_by (meaning_within (k - 1) types) types s kind rs ≡ (meaning_within k types).entry s kind bytes
unfolding meaning_within
entry_open zero types s kind bytes rs l q = absurd (omega arith)
entry_open (suc k) types s kind bytes rs l q = let e : suc k - 1 ≡ k = omega arith in rw (q, e) refl
