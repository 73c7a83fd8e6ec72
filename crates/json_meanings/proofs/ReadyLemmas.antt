-- Some tree is accepted behind each key, and as each message: null, the least value of a kind, or an object without
-- members.
use Rattle.std.proofs.Common.{◌≡◌, ◌∙◌, ◌⊎◌, inl, inr, sym, ap, subst, refl, cond, ℕ, zero, suc, Bool, true, false, List, [], codes, Some, Result, Ok, Err}
use Rattle.std.specs.Prelude.{is_some, pos}
use Rattle.std.specs.Str.{IsUtf8}
use Rattle.std.proofs.lemmas.Str.{IsUtf8-nil}
use Rattle.base64.proofs.OnLiterals.{base64_on_literals}
use Rattle.message_types.specs.Types.{field_in, fields_of}
use Rattle.message_types.specs.declared.fields.Field.{Field}
use Rattle.message_types.specs.declared.fields.Kind.{Kind}
use Rattle.message_types.specs.declared.fields.Kind.TheVariants.{One as OneOf, Message as MessageOf}
use Rattle.message_types.specs.declared.fields.Scalar.{Scalar}
use Rattle.message_types.specs.declared.fields.Scalar.TheVariants.{Int32, Int64, Uint32, Uint64, Sint32, Sint64, Fixed32, Fixed64, Sfixed32, Sfixed64, Bool as BoolOf, Text as TextOf, Bytes as BytesOf, Enumeration}
use Rattle.message_types.specs.declared.messages.Known.{Known}
use Rattle.message_types.specs.declared.messages.Known.TheVariants.{Plain, Timestamp, Duration, FieldMask, Wrapper}
use Rattle.message_types.specs.declared.messages.TypeId.{TypeId}
use Rattle.schema.specs.Layers.{ItemLayer}
use Rattle.schema.specs.Pairs.{item_at}
use Rattle.schema.specs.Soundness.{IsSound}
use Rattle.schema.specs.declared.key.Key.{Key}
use Rattle.schema.specs.declared.value.Item.TheOpen.{Number, Truth, Text, Bytes, Message}
use Rattle.schema.specs.declared.value.Item.{Item}
use Rattle.json_events.specs.JsonNumbers.{IsNumber}
use Rattle.json_events.specs.JsonTree.{Json, Mark, literal, number, string, object, no_pairs, digits, text, name}
use Rattle.json_events.specs.declared.state.Name.TheVariants as names
use Rattle.json_meanings.specs.FaultPlaces.{at_once, behind, onward}
use Rattle.json_meanings.specs.FirstLaws.{HasTexts}
use Rattle.json_meanings.specs.TextTypes.{IsTextType}
use Rattle.json_meanings.specs.JsonDenotes.{members, object_value, value}
use Rattle.json_meanings.specs.JsonScalars.{Schema, scalar_as, text_as}
use Rattle.json_meanings.specs.PartialMessages.{FieldForm, as_key, empty_message, form_of, has_room, key_of, put_field, stored, unless_there, value_of}
use Rattle.json_meanings.specs.ReadingSpots.{Filled, OpenObject, Spot, entry, member, of_map, of_message, single, unset, whole}
use Rattle.json_meanings.specs.SpotTables.{as_message, as_single, below, entry_at, fills, inner_as, kind_as, known_as, known_of, member_at, message_as, message_by, names_spot, object_by, scalar_in, wrapped, wrapper_as}
use Rattle.json_meanings.specs.declared.fault.FieldKind.{FieldKind}
use Rattle.json_meanings.specs.declared.fault.FieldKind.TheVariants.{KeyTwice, TooDeep}
use Rattle.json_meanings.proofs.FieldLemmas.{wrapper_field}
use Rattle.json_meanings.proofs.WordLemmas.{IsSpellableTree, zero_is_number}

-- some tree that has a text is accepted at a spot
abbrev pub IsReady : Schema → Spot → Type 0
IsReady c spot = (j : Json) × (x : Filled) × (value c spot j ≡ Ok x) × IsSpellableTree j

-- a token that is a least value
data LeastToken : Type 0 where
  number_token : (t : List ℕ) → IsNumber t → LeastToken
  text_token : (t : List ℕ) → IsUtf8 t → LeastToken
  true_token : LeastToken

abbrev tree_of : LeastToken → Json
tree_of (number_token t is) = number t
tree_of (text_token t is) = string t
tree_of true_token = literal names.True

abbrev mark_of : LeastToken → Mark
mark_of (number_token t is) = digits t
mark_of (text_token t is) = text t
mark_of true_token = name names.True

value_takes : (c : Schema) (spot : Spot) (p : LeastToken) → value c spot (tree_of p)
    ≡ at_once (fills c spot (mark_of p))
value_takes c spot (number_token t is) = refl
value_takes c spot (text_token t is) = refl
value_takes c spot true_token = refl

least_spellable : (p : LeastToken) → IsSpellableTree (tree_of p)
least_spellable (number_token t is) = (is, tt)
least_spellable (text_token t is) = (is, tt)
least_spellable true_token = (tt, tt)

inner_takes : (c : Schema) (k : ℕ) (kind : Kind) (p : LeastToken)
    → inner_as c k kind (mark_of p) ≡ as_single (kind_as c k kind (mark_of p))
inner_takes c k kind (number_token t is) = refl
inner_takes c k kind (text_token t is) = refl
inner_takes c k kind true_token = refl

module _ (c : Schema) where
  abbrev HasScalar : Scalar → Type 0
  HasScalar s = (p : LeastToken) × (i : ItemLayer) × (scalar_as c.types s (mark_of p) ≡ Ok i)

  -- each scalar kind has a value
  least_scalar : (s : Scalar) → HasScalar s
  unfolding base64_on_literals
  least_scalar Int32 = (number_token (codes "0") zero_is_number, Number (pos 0), refl)
  least_scalar Int64 = (number_token (codes "0") zero_is_number, Number (pos 0), refl)
  least_scalar Uint32 = (number_token (codes "0") zero_is_number, Number (pos 0), refl)
  least_scalar Uint64 = (number_token (codes "0") zero_is_number, Number (pos 0), refl)
  least_scalar Sint32 = (number_token (codes "0") zero_is_number, Number (pos 0), refl)
  least_scalar Sint64 = (number_token (codes "0") zero_is_number, Number (pos 0), refl)
  least_scalar Fixed32 = (number_token (codes "0") zero_is_number, Number (pos 0), refl)
  least_scalar Fixed64 = (number_token (codes "0") zero_is_number, Number (pos 0), refl)
  least_scalar Sfixed32 = (number_token (codes "0") zero_is_number, Number (pos 0), refl)
  least_scalar Sfixed64 = (number_token (codes "0") zero_is_number, Number (pos 0), refl)
  least_scalar BoolOf = (true_token, Truth true, refl)
  least_scalar TextOf = (text_token [] IsUtf8-nil, Text [], refl)
  least_scalar BytesOf = (text_token [] IsUtf8-nil, Bytes [], refl)
  least_scalar (Enumeration id) = (number_token (codes "0") zero_is_number, Number (pos 0), refl)

spot_same : (a b : Spot) → ◌≡◌ {A = Result Spot FieldKind} (Ok a) (Ok b) → a ≡ b
spot_same a b e = cc

module _ (c : Schema) (sound : IsSound c.types) (texts : HasTexts c) where
  -- a kind has a token, or is an object
  abbrev HasValue : ℕ → Kind → Type 0
  HasValue k kind =
      ((p : LeastToken) × (i : ItemLayer) × (kind_as c k kind (mark_of p) ≡ Ok i))
      ⊎ ((o : OpenObject) × (object_by c k kind ≡ Ok o))

  message_value : (k : ℕ) (id : TypeId) → HasValue (suc k) (MessageOf id)
  message_value k id = by_known (known_of c.types id) refl
    where
      by_text : (known : Known) → known_of c.types id ≡ known → IsTextType known
          → ((m : Mark) → message_as c (suc k) known (fields_of c.types id) m ≡ as_message (known_as c known m))
          → HasValue (suc k) (MessageOf id)
      by_text known e is same =
          let t = texts id (subst IsTextType (sym e) is) in
          inl (
            text_token t.0 t.2,
            Message t.1,
            ap (λ w. message_as c (suc k) w (fields_of c.types id) (text t.0)) e
                ∙ (same (text t.0) ∙ ap as_message (ap (λ w. c.known w t.0) (sym e) ∙ t.3)),
          )

      wrapped_is : (f : Field) (r : Result ItemLayer FieldKind) (i : ItemLayer) → r ≡ Ok i
          → as_message (wrapped (Some f) r)
          ≡ Ok (Message (value_of (put_field empty_message (form_of f) (stored f.presence i))))
      wrapped_is f r i e = ap (λ q. as_message (wrapped (Some f) q)) e

      by_wrapper : (f : Field) → known_of c.types id ≡ Wrapper → field_in (fields_of c.types id) 1 ≡ Some f
          → HasValue (suc k) (MessageOf id)
      by_wrapper f e is =
          let s = least_scalar c (scalar_in f.kind) in
          inl (
            s.0,
            Message (value_of (put_field empty_message (form_of f) (stored f.presence s.1))),
            ap (λ w. message_as c (suc k) w (fields_of c.types id) (mark_of s.0)) e
                ∙ (ap (λ o. as_message (wrapper_as c o (mark_of s.0))) is ∙ wrapped_is f _ s.1 s.2),
          )

      by_known : (known : Known) → known_of c.types id ≡ known → HasValue (suc k) (MessageOf id)
      by_known Plain e = inr (of_message k id empty_message, ap (λ w. message_by (suc k) w id) e)
      by_known Timestamp e = by_text Timestamp e tt (λ m. refl)
      by_known Duration e = by_text Duration e tt (λ m. refl)
      by_known FieldMask e = by_text FieldMask e tt (λ m. refl)
      by_known Wrapper e = let f = wrapper_field c.types sound id e in by_wrapper f.0 e f.1

  -- a message that stands alone
  pub whole_ready : (k : ℕ) (id : TypeId) → IsReady c (whole (suc k) id)
  whole_ready k id = by_value (message_value k id)
    where
      by_value : HasValue (suc k) (MessageOf id) → IsReady c (whole (suc k) id)
      by_value (inl h) = (
        tree_of h.0,
        single h.1,
        value_takes c (whole (suc k) id) h.0 ∙ ap (λ r. at_once (as_single r)) h.2,
        least_spellable h.0,
      )
      by_value (inr h) =
          let taken = ap (λ r. onward (at_once r) (λ o. behind 1 (members c o no_pairs))) h.1 in
          (object no_pairs, object_value h.0, taken, (tt, (tt, tt)))

  -- the value of an entry that has room
  kind_value : (k : ℕ) (kind : Kind) → has_room k kind ≡ true → HasValue (below k) kind
  kind_value zero kind room = absurd cc
  kind_value (suc zero) (OneOf s) room = let h = least_scalar c s in inl h
  kind_value (suc zero) (MessageOf id) room = absurd cc
  kind_value (suc (suc k)) (OneOf s) room = let h = least_scalar c s in inl h
  kind_value (suc (suc k)) (MessageOf id) room = message_value k id

  entry_ready : (k : ℕ) (s : Scalar) (kind : Kind) (es : List (Key × Item)) (key : Key) → has_room k kind ≡ true
      → IsReady c (entry k s kind es key)
  entry_ready k s kind es key room = by_value (kind_value k kind room)
    where
      by_value : HasValue (below k) kind → IsReady c (entry k s kind es key)
      by_value (inl h) = (
        tree_of h.0,
        single h.1,
        value_takes c (entry k s kind es key) h.0
            ∙ ap at_once (inner_takes c (below k) kind h.0 ∙ ap as_single h.2),
        least_spellable h.0,
      )
      by_value (inr h) =
          let taken = ap (λ r. onward (at_once r) (λ o. behind 1 (members c o no_pairs))) h.1 in
          (object no_pairs, object_value h.0, taken, (tt, (tt, tt)))

  -- a key of an entry leaves room for its value
  room_of : (k : ℕ) (kind : Kind) (es : List (Key × Item)) (r : Result ItemLayer FieldKind) (key : Key)
      → unless_there k kind es r ≡ Ok key → has_room k kind ≡ true
  room_of k kind es (Err e) key is = absurd cc
  room_of k kind es (Ok i) key is = by_room (has_room k kind) is
    where
      by_room : (t : Bool)
          → cond t (cond (is_some (item_at es (as_key i))) (Err KeyTwice) (Ok (as_key i))) (Err TooDeep) ≡ Ok key
          → t ≡ true
      by_room true e = refl
      by_room false e = absurd cc

  -- behind each key that is taken some tree is accepted
  pub named_ready : (o : OpenObject) (t : List ℕ) (spot : Spot) → names_spot c o t ≡ Ok spot → IsReady c spot
  named_ready (of_message k id m) t spot is = by_key (key_of (fields_of c.types id) m t) is
    where
      by_key : (r : Result FieldForm FieldKind) → member_at k id m r ≡ Ok spot → IsReady c spot
      by_key (Err e) q = absurd cc
      by_key (Ok f) q =
          subst (IsReady c) (spot_same (member k id m f) spot q) (literal names.Null, unset, refl, (tt, tt))
  named_ready (of_map k s kind es) t spot is = by_key (text_as c.types s t) is
    where
      by_key : (r : Result ItemLayer FieldKind) → entry_at k s kind es (unless_there k kind es r) ≡ Ok spot
          → IsReady c spot
      by_key r q = by_entry (unless_there k kind es r) refl q
        where
          by_entry : (w : Result Key FieldKind) → unless_there k kind es r ≡ w → entry_at k s kind es w ≡ Ok spot
              → IsReady c spot
          by_entry (Err e) u p = absurd cc
          by_entry (Ok key) u p =
              subst (IsReady c) (spot_same (entry k s kind es key) spot p)
              (entry_ready k s kind es key (room_of k kind es r key u))
