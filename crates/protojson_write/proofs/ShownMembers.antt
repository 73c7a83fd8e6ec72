-- The text of a message is that of an object whose members are read as its slots.
use Rattle.std.proofs.Common.{◌≡◌, ◌∙◌, sym, ap, subst, refl, cond, nat_eq, ℕ, false, List, [], ◌∷◌, ◌++◌, append_assoc, append-nil, map, Option, Some, None, Ok, Err}
use Rattle.std.specs.List.{AllByRecursion}
use Rattle.std.specs.Str.{IsUtf8}
use Rattle.message_types.specs.Types.{field_in, fields_of}
use Rattle.message_types.specs.declared.fields.Field.{Field}
use Rattle.message_types.specs.declared.messages.TypeId.{TypeId}
use Rattle.schema.specs.Apart.{AreApart}
use Rattle.schema.specs.Soundness.{AreKeysApart}
use Rattle.schema.specs.Validity.{oneofs_in}
use Rattle.schema.specs.Value.{RiseFrom}
use Rattle.schema.specs.declared.value.Item.TheOpen.{Message}
use Rattle.schema.specs.declared.value.Slot.{Slot}
use Rattle.json_events.specs.JsonStrings.{IsString}
use Rattle.json_events.specs.JsonTree.{Json, Pairs, no_pairs, pair}
use Rattle.json_events.specs.StringOutput.{json_string}
use Rattle.json_meanings.specs.JsonDenotes.{members, slot_by, value}
use Rattle.json_meanings.specs.JsonScalars.{Schema}
use Rattle.json_meanings.specs.PartialMessages.{FieldForm, form_of, has_number, put_field, unless_seen}
use Rattle.json_meanings.specs.ReadingSpots.{Filled, Spot, member, of_message, single}
use Rattle.json_meanings.specs.SpotTables.{member_at, names_spot}
use Rattle.json_meanings.specs.declared.fault.FieldKind.TheVariants.{KeyTwice}
use Rattle.protojson_write.specs.JsonOutput.{followers, separated}
use Rattle.protojson_write.proofs.ShownFields.{found_number, named_by_json, not_seen, not_taken, put_next, so_far}
use Rattle.protojson_write.proofs.ShownLists.{pair_then}
use Rattle.protojson_write.proofs.ShownSpots.{HasTree, IsSpotOf, member_spot}
use Rattle.protojson_write.proofs.TreeTexts.{IsMorePairsText, IsPairsText, first_pair, next_pair, no_more_pairs, no_pairs_text}

-- the bytes are a text of a tree that comes to this slot at the spot of a field
pub record HasSlotTree (c : Schema) (f : FieldForm) (spot : Spot) (w : List ℕ) (o : Option Slot) : Type 0 where
  pub filled : Filled
  pub has : HasTree c spot w filled
  pub slot : slot_by f filled ≡ o

module _ (c : Schema) (k : ℕ) (id : TypeId) (apart : AreKeysApart (fields_of c.types id))
    (strings : (t : List ℕ) → IsUtf8 t → IsString t (json_string t)) (show : ℕ × Slot → List ℕ) where
  -- a member, of which the text is its name and that of its slot
  pub record HasMember (e : ℕ × Slot) : Type 0 where
    pub field : Field
    pub slot_text : List ℕ
    pub found : field_in (fields_of c.types id) e.0 ≡ Some field
    pub utf8 : IsUtf8 field.json
    pub text : show e ≡ json_string field.json ++ 58 ∷ slot_text
    pub reads : (spot : Spot) → IsSpotOf c k (form_of field) spot
        → HasSlotTree c (form_of field) spot slot_text (Some e.1)

  abbrev fields : List Field
  fields = fields_of c.types id

  -- the spot behind its key
  abbrev spot_at : (done : List (ℕ × Slot)) (e : ℕ × Slot) → HasMember e → Spot
  spot_at done e h = member k id (so_far fields done) (form_of h.field)

  named : (done : List (ℕ × Slot)) (e : ℕ × Slot) (es : List (ℕ × Slot)) (h : HasMember e)
      → RiseFrom 0 (done ++ e ∷ es)
      → names_spot c (of_message k id (so_far fields done)) h.field.json ≡ Ok (spot_at done e h)
  named done e es h rise =
      ap (λ o. member_at k id (so_far fields done) (unless_seen (so_far fields done) o))
      (named_by_json e.0 fields h.field apart h.found)
      ∙ (ap (λ n. member_at k id (so_far fields done) (cond (has_number n (so_far fields done).seen) (Err KeyTwice)
      (Ok (form_of h.field)))) (found_number e.0 fields h.field h.found)
      ∙ ap (λ b. member_at k id (so_far fields done) (cond b (Err KeyTwice) (Ok (form_of h.field))))
      (not_seen 0 done e es rise))

  -- its tree there
  slot_tree : (done : List (ℕ × Slot)) (e : ℕ × Slot) (es : List (ℕ × Slot)) (h : HasMember e)
      → AreApart nat_eq (oneofs_in fields (done ++ e ∷ es))
      → HasSlotTree c (form_of h.field) (spot_at done e h) h.slot_text (Some e.1)
  slot_tree done e es h oneofs =
      h.reads (spot_at done e h)
      (member_spot c k id (so_far fields done) (form_of h.field) (not_taken fields done e es h.field h.found oneofs))

  member_then : (done : List (ℕ × Slot)) (e : ℕ × Slot) (es : List (ℕ × Slot)) (h : HasMember e) (ps : Pairs)
      (x : Filled) → RiseFrom 0 (done ++ e ∷ es)
      → (t : HasSlotTree c (form_of h.field) (spot_at done e h) h.slot_text (Some e.1))
      → members c (of_message k id (so_far fields (done ++ e ∷ []))) ps ≡ Ok x
      → members c (of_message k id (so_far fields done)) (pair h.field.json t.has.tree ps) ≡ Ok x
  member_then done e es h ps x rise t others =
      pair_then c (of_message k id (so_far fields done)) h.field.json t.has.tree ps (spot_at done e h) t.filled x
      (named done e es h rise) t.has.reads
      (ap (λ o. members c (of_message k id (put_field (so_far fields done) (form_of h.field) o)) ps) t.slot
      ∙ (ap (λ m. members c (of_message k id m) ps)
      (put_next fields done e es h.field h.found (found_number e.0 fields h.field h.found) rise)
      ∙ others))

  record HasMoreMembers (done es : List (ℕ × Slot)) : Type 0 where
    pub ps : Pairs
    pub text : IsMorePairsText ps (followers show es)
    pub reads : members c (of_message k id (so_far fields done)) ps
        ≡ Ok (single (Message (record { fields = done ++ es })))

  more_members : (es : List (ℕ × Slot)) → AllByRecursion HasMember es → (done : List (ℕ × Slot))
      → RiseFrom 0 (done ++ es) → AreApart nat_eq (oneofs_in fields (done ++ es))
      → HasMoreMembers done es
  more_members [] h done rise oneofs = record {
    ps = no_pairs;
    text = no_more_pairs;
    reads = ap (λ r. Ok (single (Message (record { fields = r })))) (sym (append-nil done));
  }
  more_members (e ∷ es) h done rise oneofs =
      let first = slot_tree done e es h.0 oneofs in
      let joined : (done ++ e ∷ []) ++ es ≡ done ++ e ∷ es = append_assoc done (e ∷ []) es in
      let others = more_members es h.1 (done ++ e ∷ []) (subst (RiseFrom 0) (sym joined) rise)
      (subst (λ r. AreApart nat_eq (oneofs_in fields r)) (sym joined) oneofs) in
      record {
        ps = pair h.0.field.json first.has.tree others.ps;
        text =
            subst (λ r. IsMorePairsText (pair h.0.field.json first.has.tree others.ps) (44 ∷ (r ++ followers show es)))
            (sym h.0.text)
            (next_pair h.0.field.json first.has.tree others.ps (json_string h.0.field.json) h.0.slot_text
            (followers show es) (strings h.0.field.json h.0.utf8) first.has.text others.text);
        reads =
            member_then done e es h.0 others.ps _ rise first
            (others.reads ∙ ap (λ r. Ok (single (Message (record { fields = r })))) joined);
      }

  -- all members of an object
  pub record HasMembers (es : List (ℕ × Slot)) : Type 0 where
    pub ps : Pairs
    pub text : IsPairsText ps (separated show es)
    pub reads : members c (of_message k id (so_far fields [])) ps ≡ Ok (single (Message (record { fields = es })))

  -- slots that rise, each with a tree
  pub all_members : (es : List (ℕ × Slot)) → AllByRecursion HasMember es → RiseFrom 0 es
      → AreApart nat_eq (oneofs_in fields es)
      → HasMembers es
  all_members [] h rise oneofs = record { ps = no_pairs; text = no_pairs_text; reads = refl }
  all_members (e ∷ es) h rise oneofs =
      let first = slot_tree [] e es h.0 oneofs in
      let others = more_members es h.1 (e ∷ []) rise oneofs in
      record {
        ps = pair h.0.field.json first.has.tree others.ps;
        text =
            subst (λ r. IsPairsText (pair h.0.field.json first.has.tree others.ps) (r ++ followers show es))
            (sym h.0.text)
            (first_pair h.0.field.json first.has.tree others.ps (json_string h.0.field.json) h.0.slot_text
            (followers show es) (strings h.0.field.json h.0.utf8) first.has.text others.text);
        reads = member_then [] e es h.0 others.ps _ rise first others.reads;
      }
