-- A field that is found by its name stands at the place of that name.
use Rattle.std.proofs.Common.{◌≡◌, ◌+◌, ◌++◌, ◌⊎◌, inl, inr, ℕ, Bool, true, false, cond, List, [], ◌∷◌, Option, Some, None, map, option_and_then, option_map, slice_get, unwrap_or, refl, sym, ap, subst, ◌∙◌, arith, suc, zero, Bor, length, length-append, add-one}
use Rattle.std.proofs.lemmas.Option.{slice_get_within}
use Rattle.base.proofs.TextLemmas.{bytes_eq_swap}
use Rattle.std.specs.BTreeMap.{BTreeMap}
use Rattle.std.specs.Str.{bytes_eq}
use Rattle.descriptor_pool.specs.DeclaredTypes.{first_from}
use Rattle.descriptor_pool.specs.NameIndex.{index_at}
use Rattle.linked_api.specs.FieldPaths.{field_named}
use Rattle.message_types.specs.Types.{fields_of}
use Rattle.message_types.specs.declared.fields.Field.{Field}
use Rattle.message_types.specs.declared.messages.MessageType.{MessageType}
use Rattle.message_types.specs.declared.messages.TypeId.{TypeId}
use Rattle.message_types.specs.declared.messages.Types.{Types}
use Rattle.linked_bindings.specs.FieldIndexes.{AreFieldIndexes, IsFieldIndex}

-- ---- items at an index

-- what stands in a list with an item behind it stood there before, or is that item
at_more : {X : Type 0} (xs : List X) (x y : X) (k : ℕ) → slice_get (xs ++ x ∷ []) k ≡ Some y
    → (slice_get xs k ≡ Some y) ⊎ ((k ≡ length xs) × (x ≡ y))
at_more [] x y zero h = let same : x ≡ y = cc h in inr (refl, same)
at_more [] x y (suc k) h = absurd (cc h)
at_more (z ∷ xs) x y zero h = inl h
at_more (z ∷ xs) x y (suc k) h = pick (at_more xs x y k h)
  where
    pick : (slice_get xs k ≡ Some y) ⊎ ((k ≡ length xs) × (x ≡ y))
        → (slice_get (z ∷ xs) (suc k) ≡ Some y) ⊎ ((suc k ≡ length (z ∷ xs)) × (x ≡ y))
    pick (inl e) = inl e
    pick (inr e) = inr (ap (λ (n : ℕ). suc n) e.0, e.1)

-- past the end of one of two lists of one length is past that of the other
both_end : {X Y : Type 0} (xs : List X) (ys : List Y) (k : ℕ) → length xs ≡ length ys → slice_get xs k ≡ None
    → slice_get ys k ≡ None
both_end [] [] k e h = refl
both_end [] (y ∷ ys) k e h = absurd (omega (arith, e))
both_end (x ∷ xs) [] k e h = absurd (omega (arith, e))
both_end (x ∷ xs) (y ∷ ys) zero e h = absurd (cc h)
both_end (x ∷ xs) (y ∷ ys) (suc k) e h =
    let less : length xs ≡ length ys = omega (arith, e) in both_end xs ys k less h

-- ---- the place of a name

-- names that are counted from one more have places that are one more
first_later : (ns : List (List ℕ)) (k : ℕ) (q : List ℕ)
    → first_from (k + 1) ns q ≡ option_map (λ j. j + 1) (first_from k ns q)
first_later [] k q = refl
first_later (n ∷ ns) k q = pick (bytes_eq q n) (first_later ns (k + 1) q)
  where
    pick : (b : Bool) → first_from (k + 1 + 1) ns q ≡ option_map (λ j. j + 1) (first_from (k + 1) ns q)
        → cond b (Some (k + 1)) (first_from (k + 1 + 1) ns q)
        ≡ option_map (λ j. j + 1) (cond b (Some k) (first_from (k + 1) ns q))
    pick true h = refl
    pick false h = h

-- what stands at a place that is one more stands behind the first
behind_first : {X : Type 0} (x : X) (xs : List X) (o : Option ℕ)
    → option_and_then (slice_get (x ∷ xs)) (option_map (λ j. j + 1) o) ≡ option_and_then (slice_get xs) o
behind_first x xs None = refl
behind_first x xs (Some j) = ap (slice_get (x ∷ xs)) (add-one j)

-- the first field of a name stands at the place of that name
pub named_at : (fs : List Field) (q : List ℕ)
    → option_and_then (slice_get fs) (first_from 0 (map (λ (f : Field). f.name) fs) q) ≡ field_named fs q
named_at [] q = refl
named_at (f ∷ fs) q =
    ap (λ (b : Bool). option_and_then (slice_get (f ∷ fs))
    (cond b (Some 0) (first_from (0 + 1) (map (λ (g : Field). g.name) fs) q))) (bytes_eq_swap q f.name)
    ∙ pick (bytes_eq f.name q) (named_at fs q)
  where
    pick : (b : Bool)
        → option_and_then (slice_get fs) (first_from 0 (map (λ (g : Field). g.name) fs) q) ≡ field_named fs q
        → option_and_then (slice_get (f ∷ fs)) (cond b (Some 0) (first_from (0 + 1) (map (λ (g : Field). g.name) fs) q))
        ≡ cond b (Some f) (field_named fs q)
    pick true h = refl
    pick false h =
        ap (option_and_then (slice_get (f ∷ fs))) (first_later (map (λ (g : Field). g.name) fs) 0 q)
        ∙ behind_first f fs (first_from 0 (map (λ (g : Field). g.name) fs) q) ∙ h

-- ---- maps of all message types

-- no message type has no map
pub none_indexed : AreFieldIndexes [] []
none_indexed = record { one_each = refl; each = λ k m index h e. absurd (cc h) }

-- one message type more has its map
pub indexed_more : (ms : List MessageType) (is : List (BTreeMap (Bor (List ℕ)) ℕ)) (m : MessageType)
    (index : BTreeMap (Bor (List ℕ)) ℕ) → AreFieldIndexes ms is → IsFieldIndex m.fields index
    → AreFieldIndexes (ms ++ m ∷ []) (is ++ index ∷ [])
indexed_more ms is m index h own = record {
  one_each = simp length-append (omega (arith, h.one_each));
  each = λ k n i e d. pick k n i (at_more ms m n k e) (at_more is index i k d);
}
  where
    pick : (k : ℕ) (n : MessageType) (i : BTreeMap (Bor (List ℕ)) ℕ)
        → (slice_get ms k ≡ Some n) ⊎ ((k ≡ length ms) × (m ≡ n))
        → (slice_get is k ≡ Some i) ⊎ ((k ≡ length is) × (index ≡ i)) → IsFieldIndex n.fields i
    pick k n i (inl a) (inl b) = h.each k n i a b
    pick k n i (inl a) (inr b) = let lt = slice_get_within ms k n a in absurd (omega (arith, lt, b.0, h.one_each))
    pick k n i (inr a) (inl b) = let lt = slice_get_within is k i b in absurd (omega (arith, lt, a.0, h.one_each))
    pick k n i (inr a) (inr b) =
        subst (λ (x : MessageType). IsFieldIndex x.fields i) a.1
        (subst (λ (y : BTreeMap (Bor (List ℕ)) ℕ). IsFieldIndex m.fields y) b.1 own)

-- a field is found by the map of its type
pub found_by_index : (types : Types) (id : TypeId) (is : List (BTreeMap (Bor (List ℕ)) ℕ))
    (index : BTreeMap (Bor (List ℕ)) ℕ) (q : List ℕ) → AreFieldIndexes types.messages is
    → slice_get is id.0 ≡ Some index
    → option_and_then (slice_get (fields_of types id)) (index_at index q) ≡ field_named (fields_of types id) q
found_by_index types id is index q h e = pick (slice_get types.messages id.0) refl
  where
    pick : (o : Option MessageType) → slice_get types.messages id.0 ≡ o
        → option_and_then (slice_get (fields_of types id)) (index_at index q) ≡ field_named (fields_of types id) q
    pick None d =
        let none : slice_get is id.0 ≡ None = both_end types.messages is id.0 (sym h.one_each) d in
        absurd (cc (none, e))
    pick (Some m) d =
        let fields : fields_of types id ≡ m.fields =
        ap (λ (o : Option MessageType). unwrap_or (option_map (λ (x : MessageType). x.fields) o) []) d in
        ap (λ (fs : List Field). option_and_then (slice_get fs) (index_at index q)) fields
        ∙ ap (option_and_then (slice_get m.fields)) (h.each id.0 m index d e q)
        ∙ named_at m.fields q
        ∙ ap (λ (fs : List Field). field_named fs q) (sym fields)

-- where there is no map there is no field
pub not_found : (types : Types) (id : TypeId) (is : List (BTreeMap (Bor (List ℕ)) ℕ)) (q : List ℕ)
    → AreFieldIndexes types.messages is → slice_get is id.0 ≡ None → field_named (fields_of types id) q ≡ None
not_found types id is q h e =
    ap (λ (o : Option MessageType). field_named (unwrap_or (option_map (λ (x : MessageType). x.fields) o) []) q)
    (both_end is types.messages id.0 h.one_each e)
