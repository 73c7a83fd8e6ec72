-- Bytes that have no fault at one place have none at another.
use Rattle.std.proofs.Common.{◌≡◌, ◌+◌, ◌-◌, ◌==◌, ◌&&◌, ◌||◌, ℕ, zero, suc, Bool, true, false, cond, List, [], ◌∷◌, Option, Some, None, Result, Ok, Err, arith, refl}
use Rattle.std.specs.List.{AllByRecursion}
use Rattle.std.specs.Str.{is_utf8}
use Rattle.message_types.specs.Types.{field_in, fields_of}
use Rattle.message_types.specs.declared.fields.Field.{Field}
use Rattle.message_types.specs.declared.fields.Kind.{Kind}
use Rattle.message_types.specs.declared.fields.Kind.TheVariants.{One as OneOf, Message as MessageOf}
use Rattle.message_types.specs.declared.fields.Scalar.{Scalar}
use Rattle.message_types.specs.declared.fields.Scalar.TheVariants.{Text as TextOf}
use Rattle.message_types.specs.declared.fields.Shape.{Shape}
use Rattle.message_types.specs.declared.fields.Shape.TheVariants.{Single, Member, Many as ManyOf, Map as MapOf}
use Rattle.message_types.specs.declared.messages.Types.{Types}
use Rattle.wire_format.specs.Scalars.{scalar_wire}
use Rattle.schema.specs.Soundness.{is_packable}
use Rattle.wire_format.specs.WireFaults.{Fault, NotUtf8, and_element_fault, element_fault, scalar_fault, payload_fault, field_fault, first_fault, entry_fields, is_message}
use Rattle.wire_records.specs.WireRecord.{Record, Payload, Piece, number, eight, sized, group, four, payload_in, records}
use Rattle.wire_records.specs.declared.fault.WireKind.{WireKind}
use Rattle.wire_format.proofs.validity.CleanLemmas.{IsFaultless, all_faultless, all_whole, not_chosen, is_chosen}
use Rattle.wire_format.proofs.round_trip.EntryReadLemmas.{IsUnfaulted, no_fault}
use Rattle.wire_format.proofs.round_trip.ItemReadLemmas.{plain_fault}

-- ---- packed elements

module _ (s : Scalar) where
  element_step : (p q : ℕ) (bs : List ℕ) (x : Result Piece WireKind) → and_element_fault p x (λ skip. element_fault s (p + 1) skip bs) ≡ None
      → ((skip : ℕ) → element_fault s (p + 1) skip bs ≡ None → element_fault s (q + 1) skip bs ≡ None) → and_element_fault q x (λ skip. element_fault s (q + 1) skip bs) ≡ None
  element_step p q bs (Err e) h ih = absurd cc
  element_step p q bs (Ok x) h ih = ih (x.to - 1) h

  elements_moved : (p q skip : ℕ) (bs : List ℕ) → element_fault s p skip bs ≡ None → element_fault s q skip bs ≡ None
  elements_moved p q skip [] h = refl
  elements_moved p q (suc skip) (b ∷ bs) h = elements_moved (p + 1) (q + 1) skip bs h
  elements_moved p q zero (b ∷ bs) h = element_step p q bs (payload_in (scalar_wire s) (b ∷ bs)) h (λ skip g. elements_moved (p + 1) (q + 1) skip bs g)

text_moved : (bs : List ℕ) (f g : Fault) → cond (is_utf8 bs) None (Some f) ≡ None → cond (is_utf8 bs) None (Some g) ≡ None
text_moved bs f g h = rw (is_chosen (is_utf8 bs) f h) refl

packed_moved : (s : Scalar) (p q : ℕ) (bs : List ℕ) (b : Bool) → cond b (element_fault s p 0 bs) None ≡ None → cond b (element_fault s q 0 bs) None ≡ None
packed_moved s p q bs true h = elements_moved s p q 0 bs h
packed_moved s p q bs false h = refl

scalar_moved : (shape : Shape) (s : Scalar) (p q a b : ℕ) (bs : List ℕ) → scalar_fault shape s p a bs ≡ None → scalar_fault shape s q b bs ≡ None
scalar_moved Single TextOf p q a b bs h = text_moved bs (NotUtf8 p) (NotUtf8 q) h
scalar_moved (Member j) TextOf p q a b bs h = text_moved bs (NotUtf8 p) (NotUtf8 q) h
scalar_moved ManyOf TextOf p q a b bs h = text_moved bs (NotUtf8 p) (NotUtf8 q) h
scalar_moved (MapOf t) TextOf p q a b bs h = text_moved bs (NotUtf8 p) (NotUtf8 q) h
scalar_moved ManyOf s p q a b bs h = packed_moved s a b bs (is_packable s) h
scalar_moved _ _ p q a b bs h = refl

chosen_moved : (b : Bool) (f g : Fault) (x y : Option Fault) → (x ≡ None → y ≡ None) → cond b (Some f) x ≡ None → cond b (Some g) y ≡ None
chosen_moved b f g x y move h = let n = not_chosen b f x h in rw n.0 (move n.1)

-- ---- messages

-- bytes without a fault have none at any other offset
pub record IsMoved (k : ℕ) (types : Types) : Type 0 where
  pub moved : (fields : List Field) (p q : ℕ) (bytes : List ℕ) → first_fault k types fields p bytes ≡ None → first_fault k types fields q bytes ≡ None

module _ (k : ℕ) (types : Types) (deeper : IsMoved k types) where
  sized_moved : (shape : Shape) (kind : Kind) (p q a b : ℕ) (bs : List ℕ) → payload_fault (first_fault k types) types k shape kind p a (sized bs) ≡ None → payload_fault (first_fault k types) types k shape kind q b (sized bs) ≡ None
  sized_moved (MapOf s) kind p q a b bs h = chosen_moved (k == 0 || (k == 1 && is_message kind)) _ _ (first_fault k types (entry_fields s kind) a bs) (first_fault k types (entry_fields s kind) b bs) (deeper.moved (entry_fields s kind) a b bs) h
  sized_moved Single (MessageOf id) p q a b bs h = chosen_moved (k == 0) _ _ (first_fault k types (fields_of types id) a bs) (first_fault k types (fields_of types id) b bs) (deeper.moved (fields_of types id) a b bs) h
  sized_moved (Member j) (MessageOf id) p q a b bs h = chosen_moved (k == 0) _ _ (first_fault k types (fields_of types id) a bs) (first_fault k types (fields_of types id) b bs) (deeper.moved (fields_of types id) a b bs) h
  sized_moved ManyOf (MessageOf id) p q a b bs h = chosen_moved (k == 0) _ _ (first_fault k types (fields_of types id) a bs) (first_fault k types (fields_of types id) b bs) (deeper.moved (fields_of types id) a b bs) h
  sized_moved Single (OneOf s) p q a b bs h = scalar_moved Single s p q a b bs h
  sized_moved (Member j) (OneOf s) p q a b bs h = scalar_moved (Member j) s p q a b bs h
  sized_moved ManyOf (OneOf s) p q a b bs h = scalar_moved ManyOf s p q a b bs h

  payload_moved : (shape : Shape) (kind : Kind) (p q a b : ℕ) (x : Payload) → payload_fault (first_fault k types) types k shape kind p a x ≡ None → payload_fault (first_fault k types) types k shape kind q b x ≡ None
  payload_moved shape kind p q a b (sized bs) h = sized_moved shape kind p q a b bs h
  payload_moved shape kind p q a b (number n) h = plain_fault (first_fault k types) types k q b shape kind (number n) tt
  payload_moved shape kind p q a b (eight n) h = plain_fault (first_fault k types) types k q b shape kind (eight n) tt
  payload_moved shape kind p q a b (four n) h = plain_fault (first_fault k types) types k q b shape kind (four n) tt
  payload_moved shape kind p q a b group h = plain_fault (first_fault k types) types k q b shape kind group tt

  field_moved : (o : Option Field) (p q : ℕ) (r : Record) → field_fault (first_fault k types) types k o p r ≡ None → field_fault (first_fault k types) types k o q r ≡ None
  field_moved None p q r h = refl
  field_moved (Some f) p q r h = payload_moved f.shape f.kind p q (p + r.head) (q + r.head) r.payload h

  abbrev check : List Field → ℕ → Record → Option Fault
  check fields at r = field_fault (first_fault k types) types k (field_in fields r.number) at r

  all_moved : (fields : List Field) (rs : List Record) → AllByRecursion (IsFaultless (check fields) k) rs → AllByRecursion (IsUnfaulted (check fields) k) rs
  all_moved fields [] h = tt
  all_moved fields (r ∷ rs) h = ((λ q. field_moved (field_in fields r.number) h.0.0 q r h.0.1), all_moved fields rs h.1)

  level_moved : (fields : List Field) (p q : ℕ) (bytes : List ℕ) → first_fault (suc k) types fields p bytes ≡ None → first_fault (suc k) types fields q bytes ≡ None
  unfolding first_fault
  level_moved fields p q bytes h =
      no_fault (check fields) k q 0 bytes (all_whole (check fields) k p 0 bytes (omega arith) h) (all_moved fields (records k 0 bytes) (all_faultless (check fields) k p 0 bytes h))

-- so it is in any number of levels
pub fault_moved : (k : ℕ) (types : Types) → IsMoved k types
unfolding first_fault
fault_moved zero types = record { moved = λ fields p q bytes h. refl }
fault_moved (suc k) types = record { moved = λ fields p q bytes h. level_moved k types (fault_moved k types) fields p q bytes h }
