-- The token with a fault is the first such that the tokens up to it begin no accepted value.
use Rattle.std.proofs.Common.{◌≡◌, ◌∙◌, ◌≤◌, ◌<◌, ◌+◌, ◌-◌, ◌⊎◌, inl, inr, sym, ap, subst, refl, arith, append-nil, append_assoc, take-append-drop, ℕ, zero, suc, List, [], ◌∷◌, ◌++◌, length, take, drop, Option, Some, None, Ok, Err}
use Rattle.std.specs.Str.{IsUtf8}
use Rattle.std.proofs.lemmas.Bool.{cases_lt}
use Rattle.message_types.specs.Types.{field_in, fields_of}
use Rattle.message_types.specs.declared.fields.Field.{Field}
use Rattle.message_types.specs.declared.messages.TypeId.{TypeId}
use Rattle.schema.specs.Soundness.{IsSound}
use Rattle.schema.specs.declared.value.Value.{Value}
use Rattle.json_events.specs.JsonStrings.{IsString}
use Rattle.json_events.specs.JsonTree.{Json, Mark, literal}
use Rattle.json_events.specs.StringOutput.{json_string}
use Rattle.json_events.specs.declared.state.Name.TheVariants as names
use Rattle.json_meanings.specs.FaultPlaces.{Fault, onward}
use Rattle.json_meanings.specs.FieldFaults.{BeginsTree, BeginsValue, IsFirstFault, tree_tokens}
use Rattle.json_meanings.specs.FirstLaws.{BeginsValueText, HasTexts, IsAtFirstToken}
use Rattle.json_meanings.specs.JsonDenotes.{alone, part_spot, reading, spot_of, value}
use Rattle.json_meanings.specs.JsonScalars.{Schema}
use Rattle.json_meanings.specs.ReadingSpots.{Filled, unset}
use Rattle.json_meanings.specs.ReadingLaws.{MeansOrFails, ReadingLawsHold}
use Rattle.json_meanings.proofs.FaultLemmas.{value_fault, value_within}
use Rattle.json_meanings.proofs.FirstLemmas.{IsClean, value_front}
use Rattle.json_meanings.proofs.FrontLemmas.{front_taken, take_past}
use Rattle.json_meanings.proofs.ReadyLemmas.{IsReady, named_ready, whole_ready}
use Rattle.json_meanings.proofs.TokenLemmas.{tree_tokens_are, with_tokens}
use Rattle.json_meanings.proofs.WordLemmas.{AreSpellable, IsSpellableTree, tree_has_text}

take_front : (n : ℕ) (ts us : List Mark) → n ≤ length ts → take n (ts ++ us) ≡ take n ts
take_front zero ts us h = refl
take_front (suc n) [] us h = absurd (omega (arith, h))
take_front (suc n) (t ∷ ts) us h = ap (λ l. t ∷ l) (take_front n ts us (omega (arith, h)))

take_len : (n : ℕ) (ts : List Mark) → n ≤ length ts → length (take n ts) ≡ n
take_len zero ts h = refl
take_len (suc n) [] h = absurd (omega (arith, h))
take_len (suc n) (t ∷ ts) h = ap suc (take_len n ts (omega (arith, h)))

module _ (c : Schema) (sound : IsSound c.types) (texts : HasTexts c) (id : TypeId) (part : Option ℕ) where
  -- no token begins a value
  top_ready : IsReady c (spot_of c id part)
  top_ready = by_part part
    where
      by_field : (o : Option Field) → IsReady c (part_spot o id)
      by_field None = whole_ready c sound texts 99 id
      by_field (Some f) = (literal names.Null, unset, refl, (tt, tt))

      by_part : (n : Option ℕ) → IsReady c (spot_of c id n)
      by_part None = whole_ready c sound texts 99 id
      by_part (Some n) = by_field (field_in (fields_of c.types id) n)

  -- a tree that is accepted at the top means a value
  accepted : (j : Json) (x : Filled) → value c (spot_of c id part) j ≡ Ok x → reading c id part j
      ≡ Ok (alone (spot_of c id part) x)
  accepted j x e = ap (λ r. onward r (λ y. Ok (alone (spot_of c id part) y))) e

  -- the tokens begin those of a tree that means a value, and that has a text, if they do
  abbrev HasValueTree : List Mark → Type 0
  HasValueTree ts =
      (j : Json) × (more : List Mark) × (v : Value) × (tree_tokens j ≡ ts ++ more) × (reading c id part j ≡ Ok v)
      × (AreSpellable ts → IsSpellableTree j)

  module _ (ts : List Mark) (j : Json) (more : List Mark) (is : tree_tokens j ≡ ts ++ more) where
    before_fault : (f : Fault) → reading c id part j ≡ Err f → (n : ℕ) → n ≡ f.0 → n ≤ length ts
        → HasValueTree (take n ts)
    before_fault f faulty zero same low =
        let h = top_ready in (
          h.0,
          tree_tokens h.0,
          alone (spot_of c id part) h.1,
          refl,
          accepted h.0 h.1 h.2,
          λ w. h.3,
        )
    before_fault f faulty (suc n) same low =
        let e = value_fault c (spot_of c id part) j f faulty in
        let within = value_within c (spot_of c id part) j f e in
        let clean : suc n ≤ f.0 = omega (arith, same) in
        let h = value_front c (named_ready c sound texts) (spot_of c id part) j n (omega (arith, within, same))
        (subst (IsClean (suc n)) (sym e) clean) in
        let front = front_taken (suc n) _ _ (h.3 [] []) in
        let same : take (suc n) (with_tokens j []) ≡ take (suc n) ts =
        ap (take (suc n)) (sym (tree_tokens_are j) ∙ is) ∙ take_front (suc n) ts more low in (
          h.0,
          front.0,
          alone (spot_of c id part) h.1,
          tree_tokens_are h.0 ∙ (front.1 ∙ ap (λ l. l ++ front.0) same),
          accepted h.0 h.1 h.2,
          λ w. h.4 [] (subst AreSpellable (sym same) w),
        )

  -- the tokens before a fault, and those up to it
  pub at_first_token : ReadingLawsHold c id part → (ts : List Mark) (f : Fault) → IsFirstFault c id part ts f
      → IsAtFirstToken c id part ts f
  at_first_token laws ts f (low, (j, more, is, faulty)) = record {
    before = (let h = before_fault ts j more is f faulty f.0 refl (omega (arith, low)) in (h.0, h.1, h.2, h.3, h.4));
    there = laws.begins_none (take (f.0 + 1) ts) f (
      subst (λ k. f.0 < k) (sym (take_len (f.0 + 1) ts (omega (arith, low)))) (omega arith),
      (j, drop (f.0 + 1) ts ++ more, split, faulty),
    );
  }
    where
      split : tree_tokens j ≡ take (f.0 + 1) ts ++ (drop (f.0 + 1) ts ++ more)
      split = is ∙ (ap (λ l. l ++ more) (sym (take-append-drop (f.0 + 1) ts))
          ∙ append_assoc (take (f.0 + 1) ts) (drop (f.0 + 1) ts) more)

  -- the tokens before a fault begin a text's, if they are those of one
  pub at_first_of_text : ((t : List ℕ) → IsUtf8 t → IsString t (json_string t)) → (ts : List Mark) (f : Fault)
      → IsFirstFault c id part ts f → AreSpellable (take f.0 ts) → BeginsValueText c id part (take f.0 ts)
  at_first_of_text strings ts f (low, (j, more, is, faulty)) words =
      let h = before_fault ts j more is f faulty f.0 refl (omega (arith, low)) in
      let text = tree_has_text strings h.0 (h.5 words) in (h.0, h.1, h.2, text.0, h.3, h.4, text.1)

  -- tokens that begin a tree's begin an accepted value's, or have a first fault
  pub value_or_fault : ReadingLawsHold c id part → (ts : List Mark) → BeginsTree ts
      → BeginsValue c id part ts ⊎ ((f : Fault) × IsFirstFault c id part ts f)
  value_or_fault laws ts (j, more, is) = by_tree (laws.value_or_fault j)
    where
      by_tree : MeansOrFails c id part j → BeginsValue c id part ts ⊎ ((f : Fault) × IsFirstFault c id part ts f)
      by_tree (inl (v, means)) = inl (j, more, v, is, means)
      by_tree (inr (f, first)) = by_place (cases_lt f.0 (length ts))
        where
          by_place : ((f.0 < length ts) ⊎ (length ts ≤ f.0))
              → BeginsValue c id part ts ⊎ ((g : Fault) × IsFirstFault c id part ts g)
          by_place (inl low) =
              inr (
                f,
                (low, (j, more, is, laws.fault_stays (tree_tokens j) [] f j first (sym (append-nil (tree_tokens j))))),
              )
          by_place (inr late) =
              let h = (at_first_token laws (tree_tokens j) f first).before in
              let k : ℕ = f.0 - length ts in
              let front : take f.0 (tree_tokens j) ≡ ts ++ take k more =
              ap (take f.0) is ∙ take_past f.0 k ts more (omega (arith, late)) in
              inl (
                h.0,
                take k more ++ h.1,
                h.2,
                h.3 ∙ (ap (λ l. l ++ h.1) front ∙ append_assoc ts (take k more) h.1),
                h.4,
              )
