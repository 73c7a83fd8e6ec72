-- Paths of names and their numbers: one leads to a leaf exactly by the numbers that are computed.
use Rattle.std.proofs.Common.{◌≡◌, ℕ, List, [], ◌∷◌, Option, Some, None, option_and_then, option_map, refl, sym, ap, subst, ◌∙◌}
use Rattle.linked_api.specs.FieldPaths.{LeadsToLeaf, inner_message, inner_named, leaf_named, path_numbers}
use Rattle.linked_api.specs.NumberPaths.{IsLeafField, NumbersLeadToLeaf, last_field}
use Rattle.message_types.specs.Types.{field_of}
use Rattle.message_types.specs.declared.fields.Field.{Field}
use Rattle.message_types.specs.declared.messages.TypeId.{TypeId}
use Rattle.message_types.specs.declared.messages.Types.{Types}
use Rattle.schema.specs.Soundness.{IsSound}
use Rattle.linked_api.proofs.StepLemmas.{inner_step, is_inner_of, leaf_step, step_inner, step_leaf}

-- the numbers that are computed for a path lead to its leaf
pub computed_lead : (types : Types) (id : TypeId) (names : List (List ℕ)) (numbers : List ℕ) → IsSound types
    → path_numbers types id names ≡ Some numbers → LeadsToLeaf types id names numbers
computed_lead types id [] numbers sound h = absurd (cc h)
computed_lead types id (name ∷ []) numbers sound h = pick (leaf_named types id name) refl h
  where
    pick : (o : Option ℕ) → leaf_named types id name ≡ o → option_map (λ n. n ∷ []) o ≡ Some numbers
        → LeadsToLeaf types id (name ∷ []) numbers
    pick None e k = absurd (cc k)
    pick (Some n) e k =
        let same : n ∷ [] ≡ numbers = cc k in
        subst (LeadsToLeaf types id (name ∷ [])) same (leaf_step types id name n sound e)
computed_lead types id (name ∷ next ∷ names) numbers sound h =
    pick (inner_named types id name) refl (λ inner ns. computed_lead types inner (next ∷ names) ns sound) h
  where
    Below : Type 0
    Below = (inner : TypeId) (ns : List ℕ) → path_numbers types inner (next ∷ names) ≡ Some ns
        → LeadsToLeaf types inner (next ∷ names) ns

    at : (n : ℕ) (inner : TypeId) (o : Option (List ℕ)) → Below → inner_named types id name ≡ Some (n, inner)
        → path_numbers types inner (next ∷ names) ≡ o → option_map (λ ns. n ∷ ns) o ≡ Some numbers
        → LeadsToLeaf types id (name ∷ next ∷ names) numbers
    at n inner None below e i k = absurd (cc k)
    at n inner (Some ns) below e i k =
        let same : n ∷ ns ≡ numbers = cc k in
        let s = inner_step types id name n inner sound e in
        subst (LeadsToLeaf types id (name ∷ next ∷ names)) same (s.0, inner, s.1, below inner ns i)

    pick : (o : Option (ℕ × TypeId)) → inner_named types id name ≡ o → Below
        → option_and_then (λ (s : ℕ × TypeId). option_map (λ ns. s.0 ∷ ns) (path_numbers types s.1 (next ∷ names))) o
        ≡ Some numbers
        → LeadsToLeaf types id (name ∷ next ∷ names) numbers
    pick None e below k = absurd (cc k)
    pick (Some s) e below k = at s.0 s.1 (path_numbers types s.1 (next ∷ names)) below e refl k

-- the numbers by which a path leads to a leaf are those that are computed
pub leading_computed : (types : Types) (id : TypeId) (names : List (List ℕ)) (numbers : List ℕ)
    → LeadsToLeaf types id names numbers → path_numbers types id names ≡ Some numbers
leading_computed types id [] numbers h = absurd h
leading_computed types id (name ∷ []) [] h = absurd h
leading_computed types id (name ∷ []) (n ∷ []) h =
    ap (option_map (λ m. m ∷ [])) (step_leaf types id name n h.0 h.1)
leading_computed types id (name ∷ []) (n ∷ m ∷ numbers) h = absurd h
leading_computed types id (name ∷ next ∷ names) [] h = absurd h
leading_computed types id (name ∷ next ∷ names) (n ∷ numbers) h =
    ap (option_and_then (λ (s : ℕ × TypeId). option_map (λ ns. s.0 ∷ ns) (path_numbers types s.1 (next ∷ names))))
    (step_inner types id name n h.1 h.0 h.2)
    ∙ ap (option_map (λ ns. n ∷ ns)) (leading_computed types h.1 (next ∷ names) numbers h.3)

-- a path leads to a leaf by one list of numbers
pub leads_one_way : (types : Types) (id : TypeId) (names : List (List ℕ)) (a b : List ℕ)
    → LeadsToLeaf types id names a → LeadsToLeaf types id names b → a ≡ b
leads_one_way types id names a b h k =
    let same : Some a ≡ Some b = sym (leading_computed types id names a h) ∙ leading_computed types id names b k in
    cc same

-- the numbers by which a path leads to a leaf lead there without its names
pub leads_alone : (types : Types) (id : TypeId) (names : List (List ℕ)) (numbers : List ℕ)
    → LeadsToLeaf types id names numbers → NumbersLeadToLeaf types id numbers
leads_alone types id [] numbers h = absurd h
leads_alone types id (name ∷ []) [] h = absurd h
leads_alone types id (name ∷ []) (n ∷ []) h =
    (record { field = h.0.field; field_is = h.0.by_number; singular = h.0.singular }, h.1)
leads_alone types id (name ∷ []) (n ∷ m ∷ numbers) h = absurd h
leads_alone types id (name ∷ next ∷ names) [] h = absurd h
leads_alone types id (name ∷ next ∷ names) (n ∷ []) h = absurd (none_behind names h.3)
  where
    none_behind : (rest : List (List ℕ)) → LeadsToLeaf types h.1 (next ∷ rest) [] → ⊥
    none_behind [] k = k
    none_behind (x ∷ rest) k = k
leads_alone types id (name ∷ next ∷ names) (n ∷ m ∷ numbers) h = (
  record { field = h.0.field; field_is = h.0.by_number; singular = h.0.singular },
  h.1,
  h.2,
  leads_alone types h.1 (next ∷ names) (m ∷ numbers) h.3,
)

-- at the end of numbers that lead to a leaf there is a field, a singular leaf
pub numbers_end : (types : Types) (id : TypeId) (numbers : List ℕ) → NumbersLeadToLeaf types id numbers
    → (f : Field) × (last_field types id numbers ≡ Some f) × IsLeafField types f
numbers_end types id [] h = absurd h
numbers_end types id (n ∷ []) h = (h.0.field, h.0.field_is, record { singular = h.0.singular; leaf = h.1 })
numbers_end types id (n ∷ m ∷ numbers) h =
    let below = numbers_end types h.1 (m ∷ numbers) h.3 in
    let into : option_and_then (λ (f : Field). inner_message types f.kind) (field_of types id n) ≡ Some h.1 =
    ap (option_and_then (λ (f : Field). inner_message types f.kind)) h.0.field_is
    ∙ is_inner_of types h.0.field.kind h.1 h.2 in
    (below.0, ap (option_and_then (λ (inner : TypeId). last_field types inner (m ∷ numbers))) into ∙ below.1, below.2)
