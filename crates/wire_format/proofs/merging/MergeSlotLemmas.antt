-- Payloads of a field, and further ones behind them: their slots merge.
use Rattle.std.proofs.Common.{◌≡◌, ◌≢◌, ℕ, List, [], ◌∷◌, ◌++◌, map, Option, Some, None, refl, ap, ap₂, sym, ◌∙◌, append-nil, flat_map, filter_map, option_and_then}
use Rattle.std.specs.List.{AllByRecursion, cons_option}
use Rattle.std.proofs.lemmas.List.Concat.{flat_map-append}
use Rattle.schema.specs.Layers.{ItemLayer, SlotLayer}
use Rattle.message_types.specs.Types.{fields_of}
use Rattle.schema.specs.declared.key.Key.{Key}
use Rattle.schema.specs.declared.value.Item.TheOpen.{Message, One, Many, Pairs as Entries}
use Rattle.schema.specs.declared.value.Item.{roll-Item, out-roll-Item, roll-out-Item, Item}
use Rattle.schema.specs.declared.value.Slot.{Slot, out-Slot, roll-Slot, out-roll-Slot}
use Rattle.schema.specs.declared.value.Value.{Value}
use Rattle.message_types.specs.declared.fields.Kind.{Kind}
use Rattle.message_types.specs.declared.fields.Kind.TheVariants.{One as OneOf, Message as MessageOf}
use Rattle.message_types.specs.declared.fields.Presence.{Presence}
use Rattle.message_types.specs.declared.fields.Presence.TheVariants.{Implicit, Explicit}
use Rattle.message_types.specs.declared.fields.Scalar.{Scalar}
use Rattle.message_types.specs.declared.fields.Shape.{Shape}
use Rattle.message_types.specs.declared.fields.Shape.TheVariants.{Single, Member, Many as ManyOf, Map as MapOf}
use Rattle.message_types.specs.declared.messages.TypeId.{TypeId}
use Rattle.message_types.specs.declared.messages.Types.{Types}
use Rattle.wire_format.specs.FieldValues.{last_of, sized_of, one, stored, many, Inner, message_item, singular, items_of, last_entries, if_new, entries_slot, pairs, slot_by, meaning_within}
use Rattle.wire_format.specs.GoodBytes.{IsGoodItem, IsGoodPayload, AreGood}
use Rattle.wire_format.specs.KeptFields.{KeepsSlot, KeepsMessage, KeepsField, KeepsAll}
use Rattle.wire_format.specs.MergedValues.{merged_item, merged_layer, merged_slot, merged_within}
use Rattle.wire_format.specs.Scalars.{scalar_of}
use Rattle.wire_records.specs.WireRecord.{Payload}
use Rattle.wire_format.proofs.decoding.GoodLemmas.{chunks_good, joined_good}
use Rattle.wire_format.proofs.decoding.EntryLemmas.{put_pair, puts, puts_all}
use Rattle.wire_format.proofs.round_trip.EntryReadLemmas.{last_of_rising}
use Rattle.wire_format.proofs.validity.DecodedItemLemmas.{entries_some, entries_rise, stored_valid}
use Rattle.wire_format.proofs.round_trip.MemberLemmas.{fits}

-- ---- lists

filter_map-append : {A B : Type 0} (f : A → Option B) (xs ys : List A) → filter_map f (xs ++ ys) ≡ filter_map f xs ++ filter_map f ys
filter_map-append f [] ys = refl
filter_map-append {A = A} {B = B} f (x ∷ xs) ys = ap (cons_option (f x)) (filter_map-append f xs ys) ∙ by (f x)
  where
    by : (o : Option B) → cons_option o (filter_map f xs ++ filter_map f ys) ≡ cons_option o (filter_map f xs) ++ filter_map f ys
    by None = refl
    by (Some y) = refl

map-append : {A B : Type 0} (f : A → B) (xs ys : List A) → map f (xs ++ ys) ≡ map f xs ++ map f ys
map-append f [] ys = refl
map-append {A = A} {B = B} f (x ∷ xs) ys = ap (λ (zs : List B). f x ∷ zs) (map-append f xs ys)

-- the last of two lists is that of the second, where it has one
last_append : {A : Type 0} (xs : List A) (y : A) (ys : List A) → last_of (xs ++ y ∷ ys) ≡ last_of (y ∷ ys)
last_append [] y ys = refl
last_append (x ∷ []) y ys = refl
last_append (x ∷ z ∷ zs) y ys = last_append (z ∷ zs) y ys

-- ---- the last entries of joined lists

puts_append : (es xs ys : List (Key × Item)) → puts es (xs ++ ys) ≡ puts (puts es xs) ys
puts_append es [] ys = refl
puts_append es (x ∷ xs) ys = puts_append (put_pair x es) xs ys

last_puts : (xs ys : List (Key × Item)) → last_entries (xs ++ ys) ≡ puts (last_entries xs) ys
last_puts xs ys = sym (puts_all (xs ++ ys)) ∙ puts_append [] xs ys ∙ ap (λ (es : List (Key × Item)). puts es ys) (puts_all xs)

last_twice : (xs : List (Key × Item)) → last_entries (last_entries xs) ≡ last_entries xs
last_twice xs = last_of_rising (last_entries xs) (entries_rise xs)

last_before : (xs ys : List (Key × Item)) → last_entries (last_entries xs ++ ys) ≡ last_entries (xs ++ ys)
last_before xs ys = last_puts (last_entries xs) ys ∙ ap (λ (es : List (Key × Item)). puts es ys) (last_twice xs) ∙ sym (last_puts xs ys)

last_behind : (xs ys : List (Key × Item)) → last_entries (xs ++ last_entries ys) ≡ last_entries (xs ++ ys)
last_behind [] ys = last_twice ys
last_behind (x ∷ xs) ys = ap (if_new x) (last_behind xs ys)

-- the last entries of two lists, and then of both
last_both : (xs ys : List (Key × Item)) → last_entries (last_entries xs ++ last_entries ys) ≡ last_entries (xs ++ ys)
last_both xs ys = last_before xs (last_entries ys) ∙ last_behind xs ys

entries_rolled : (es : List (Key × Item)) → es ≢ [] → entries_slot es ≡ Some (roll-Slot (Entries (record { entries = es })))
entries_rolled [] h = absurd (h refl)
entries_rolled (e ∷ es) h = refl

pairs_rolled : (x : Key × Item) (xs : List (Key × Item)) → pairs (x ∷ xs) ≡ Some (roll-Slot (Entries (record { entries = last_entries (x ∷ xs) })))
pairs_rolled x xs = entries_rolled (last_entries (x ∷ xs)) (entries_some (x ∷ xs) (λ z. absurd cc))

-- ---- slots, one level further in

-- bytes of a message, and behind them others that undo nothing: the values merge
pub record Merges (k : ℕ) (types : Types) : Type 0 where
  pub message : (id : TypeId) (a b : List ℕ) → AreGood k types (fields_of types id) a → AreGood k types (fields_of types id) b → KeepsAll k types (fields_of types id) b
      → (meaning_within k types).message (fields_of types id) (a ++ b) ≡ merged_within k types id ((meaning_within k types).message (fields_of types id) a) ((meaning_within k types).message (fields_of types id) b)

module _ (k : ℕ) (types : Types) (merges : Merges k types) where
  abbrev meaning : Inner
  meaning = meaning_within k types

  abbrev merge : TypeId → Value → Value → Value
  merge = merged_within k types

  merged_none : (kind : Kind) (o : Option Slot) → merged_slot merge kind o None ≡ o
  merged_none kind None = refl
  merged_none kind (Some s) = refl

  -- the later one of two scalars counts
  scalar_merged : (s : Scalar) (o : Option Slot) (i : Item) → merged_slot merge (OneOf s) o (Some (roll-Slot (One i))) ≡ Some (roll-Slot (One i))
  scalar_merged s None i = refl
  scalar_merged s (Some x) i = ap (λ (l : SlotLayer). Some (roll-Slot l)) (ap (merged_layer merge (OneOf s) (out-Slot x)) (out-roll-Slot (One i)) ∙ by (out-Slot x))
    where
      by : (l : SlotLayer) → merged_layer merge (OneOf s) l (One i) ≡ One i
      by (One j) = ap (λ (y : Item). One y) (roll-out-Item i)
      by (Many is) = refl
      by (Entries p) = refl

  stored_merged : (s : Scalar) (presence : Presence) (o : Option Slot) (i : Option ItemLayer) → option_and_then (stored presence) i ≢ None → option_and_then (stored presence) i ≡ merged_slot merge (OneOf s) o (option_and_then (stored presence) i)
  stored_merged s presence o None some = absurd (some refl)
  stored_merged s presence o (Some i) some = by (stored presence i) refl some
    where
      by : (t : Option Slot) → stored presence i ≡ t → t ≢ None → t ≡ merged_slot merge (OneOf s) o t
      by None e some = absurd (some refl)
      by (Some t) e some =
          let is : t ≡ roll-Slot (One (roll-Item i)) = (stored_valid presence i t e).0 in
          ap (λ (x : Slot). Some x) is ∙ sym (scalar_merged s o (roll-Item i)) ∙ ap (λ (x : Slot). merged_slot merge (OneOf s) o (Some x)) (sym is)

  scalars_merged : (s : Scalar) (presence : Presence) (xs ys : List ItemLayer) → (ys ≢ [] → option_and_then (stored presence) (last_of ys) ≢ None)
      → option_and_then (stored presence) (last_of (xs ++ ys)) ≡ merged_slot merge (OneOf s) (option_and_then (stored presence) (last_of xs)) (option_and_then (stored presence) (last_of ys))
  scalars_merged s presence xs [] some =
      ap (λ (zs : List ItemLayer). option_and_then (stored presence) (last_of zs)) (append-nil xs) ∙ sym (merged_none (OneOf s) (option_and_then (stored presence) (last_of xs)))
  scalars_merged s presence xs (y ∷ ys) some =
      ap (option_and_then (stored presence)) (last_append xs y ys) ∙ stored_merged s presence (option_and_then (stored presence) (last_of xs)) (last_of (y ∷ ys)) (some (λ z. absurd cc))

  message_stored : (presence : Presence) (v : Value) → stored presence (Message v) ≡ Some (one (Message v))
  message_stored Implicit v = refl
  message_stored Explicit v = refl

  messages_merged : (id : TypeId) (presence : Presence) (cs ds : List (List ℕ)) → AllByRecursion (AreGood k types (fields_of types id)) cs → AllByRecursion (AreGood k types (fields_of types id)) ds
      → KeepsAll k types (fields_of types id) (flat_map (λ (q : List ℕ). q) ds)
      → option_and_then (stored presence) (message_item meaning (fields_of types id) (cs ++ ds))
      ≡ merged_slot merge (MessageOf id) (option_and_then (stored presence) (message_item meaning (fields_of types id) cs)) (option_and_then (stored presence) (message_item meaning (fields_of types id) ds))
  messages_merged id presence [] ds g h keep = refl
  messages_merged id presence (c ∷ cs) [] g h keep =
      ap (λ (bs : List (List ℕ)). option_and_then (stored presence) (message_item meaning (fields_of types id) bs)) (append-nil (c ∷ cs))
      ∙ sym (merged_none (MessageOf id) (option_and_then (stored presence) (message_item meaning (fields_of types id) (c ∷ cs))))
  messages_merged id presence (c ∷ cs) (d ∷ ds) g h keep =
      let fields = fields_of types id in
      let before = flat_map (λ (q : List ℕ). q) (c ∷ cs) in
      let behind = flat_map (λ (q : List ℕ). q) (d ∷ ds) in
      let v = meaning.message fields before in
      let w = meaning.message fields behind in
      let same : meaning.message fields (flat_map (λ (q : List ℕ). q) (c ∷ (cs ++ d ∷ ds))) ≡ merge id v w =
      ap (meaning.message fields) (flat_map-append (λ (q : List ℕ). q) (c ∷ cs) (d ∷ ds)) ∙ merges.message id before behind (joined_good k types fields c cs g.0 g.1) (joined_good k types fields d ds h.0 h.1) keep in
      let right : merged_slot merge (MessageOf id) (Some (one (Message v))) (Some (one (Message w))) ≡ Some (one (Message (merge id v w))) =
      ap₂ (λ (a b : SlotLayer). Some (roll-Slot (merged_layer merge (MessageOf id) a b))) (out-roll-Slot (One (roll-Item (Message v)))) (out-roll-Slot (One (roll-Item (Message w))))
      ∙ ap₂ (λ (a b : ItemLayer). Some (roll-Slot (One (roll-Item (merged_item merge (MessageOf id) a b))))) (out-roll-Item (Message v)) (out-roll-Item (Message w)) in
      message_stored presence (meaning.message fields (flat_map (λ (q : List ℕ). q) (c ∷ (cs ++ d ∷ ds))))
      ∙ ap (λ (x : Value). Some (one (Message x))) same
      ∙ sym right
      ∙ sym (ap₂ (merged_slot merge (MessageOf id)) (message_stored presence v) (message_stored presence w))

  -- the payloads of a singular field
  singular_merged : (kind : Kind) (presence : Presence) (ps qs : List Payload) → AllByRecursion (IsGoodItem (AreGood k types) types kind) ps → AllByRecursion (IsGoodItem (AreGood k types) types kind) qs
      → KeepsSlot types kind qs (option_and_then (stored presence) (singular meaning types kind qs)) → KeepsMessage (KeepsAll k types) types kind qs
      → option_and_then (stored presence) (singular meaning types kind (ps ++ qs))
      ≡ merged_slot merge kind (option_and_then (stored presence) (singular meaning types kind ps)) (option_and_then (stored presence) (singular meaning types kind qs))
  singular_merged (OneOf s) presence ps qs g h keep inner =
      ap (λ (is : List ItemLayer). option_and_then (stored presence) (last_of is)) (filter_map-append (scalar_of types s) ps qs)
      ∙ scalars_merged s presence (filter_map (scalar_of types s) ps) (filter_map (scalar_of types s) qs) (λ some. keep (fits (scalar_of types s) qs some))
  singular_merged (MessageOf id) presence ps qs g h keep inner =
      ap (λ (cs : List (List ℕ)). option_and_then (stored presence) (message_item meaning (fields_of types id) cs)) (filter_map-append sized_of ps qs)
      ∙ messages_merged id presence (filter_map sized_of ps) (filter_map sized_of qs)
      (chunks_good (AreGood k types) types id ps (filter_map sized_of ps) (fields_of types id) refl refl g) (chunks_good (AreGood k types) types id qs (filter_map sized_of qs) (fields_of types id) refl refl h) inner

  -- lists join
  lists_merged : (kind : Kind) (xs ys : List ItemLayer) → many (xs ++ ys) ≡ merged_slot merge kind (many xs) (many ys)
  lists_merged kind [] ys = refl
  lists_merged kind (x ∷ xs) [] = ap many (append-nil (x ∷ xs))
  lists_merged kind (x ∷ xs) (y ∷ ys) =
      ap (λ (zs : List Item). Some (roll-Slot (Many zs))) (map-append roll-Item (x ∷ xs) (y ∷ ys))
      ∙ sym (ap₂ (λ (a b : SlotLayer). Some (roll-Slot (merged_layer merge kind a b))) (out-roll-Slot (Many (map roll-Item (x ∷ xs)))) (out-roll-Slot (Many (map roll-Item (y ∷ ys)))))

  -- of each key the later entry counts
  entries_merged : (kind : Kind) (xs ys : List (Key × Item)) → pairs (xs ++ ys) ≡ merged_slot merge kind (pairs xs) (pairs ys)
  entries_merged kind [] ys = refl
  entries_merged kind (x ∷ xs) [] = ap pairs (append-nil (x ∷ xs)) ∙ sym (merged_none kind (pairs (x ∷ xs)))
  entries_merged kind (x ∷ xs) (y ∷ ys) =
      pairs_rolled x (xs ++ y ∷ ys)
      ∙ ap (λ (zs : List (Key × Item)). Some (roll-Slot (Entries (record { entries = zs })))) (sym (last_both (x ∷ xs) (y ∷ ys)))
      ∙ sym (ap₂ (λ (a b : SlotLayer). Some (roll-Slot (merged_layer merge kind a b))) (out-roll-Slot (Entries (record { entries = last_entries (x ∷ xs) }))) (out-roll-Slot (Entries (record { entries = last_entries (y ∷ ys) }))))
      ∙ sym (ap₂ (merged_slot merge kind) (pairs_rolled x xs) (pairs_rolled y ys))

  single_items : (kind : Kind) (ps : List Payload) → AllByRecursion (IsGoodPayload (AreGood k types) types Single kind) ps → AllByRecursion (IsGoodItem (AreGood k types) types kind) ps
  single_items kind [] h = tt
  single_items kind (p ∷ ps) h = (h.0, single_items kind ps h.1)

  member_items : (j : ℕ) (kind : Kind) (ps : List Payload) → AllByRecursion (IsGoodPayload (AreGood k types) types (Member j) kind) ps → AllByRecursion (IsGoodItem (AreGood k types) types kind) ps
  member_items j kind [] h = tt
  member_items j kind (p ∷ ps) h = (h.0, member_items j kind ps h.1)

  -- payloads of a field, and further ones that undo nothing
  pub slot_merges : (presence : Presence) (shape : Shape) (kind : Kind) (ps qs : List Payload) → AllByRecursion (IsGoodPayload (AreGood k types) types shape kind) ps → AllByRecursion (IsGoodPayload (AreGood k types) types shape kind) qs
      → KeepsField (KeepsAll k types) types shape kind qs (slot_by meaning types presence shape kind qs)
      → slot_by meaning types presence shape kind (ps ++ qs) ≡ merged_slot merge kind (slot_by meaning types presence shape kind ps) (slot_by meaning types presence shape kind qs)
  slot_merges presence Single kind ps qs g h keep = singular_merged kind presence ps qs (single_items kind ps g) (single_items kind qs h) keep.0 keep.1
  slot_merges presence (Member j) kind ps qs g h keep = singular_merged kind presence ps qs (member_items j kind ps g) (member_items j kind qs h) keep.0 keep.1
  slot_merges presence ManyOf kind ps qs g h keep = ap many (flat_map-append (items_of meaning types kind) ps qs) ∙ lists_merged kind (flat_map (items_of meaning types kind) ps) (flat_map (items_of meaning types kind) qs)
  slot_merges presence (MapOf s) kind ps qs g h keep =
      let entry = meaning.entry s kind in
      ap pairs (ap (filter_map entry) (filter_map-append sized_of ps qs) ∙ filter_map-append entry (filter_map sized_of ps) (filter_map sized_of qs))
      ∙ entries_merged kind (filter_map entry (filter_map sized_of ps)) (filter_map entry (filter_map sized_of qs))
