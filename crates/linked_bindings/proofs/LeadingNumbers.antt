-- Numbers that lead to leaves: they tell the names of their path, so they begin one another only where these do.
use Rattle.std.proofs.Common.{◌≡◌, ◌||◌, ◌&&◌, ℕ, Bool, true, false, cond, List, [], ◌∷◌, nat_eq, Option, Some, None, refl, sym, ap, subst, ◌∙◌}
use Rattle.std.proofs.lemmas.Bool.{eqb-true, false_from_ne_true, or_from}
use Rattle.std.proofs.lemmas.Slice.Eq.{bytes_eq-Decides}
use Rattle.std.specs.List.{AllByRecursion}
use Rattle.std.specs.Str.{bytes_eq}
use Rattle.http_rules.specs.declared.template.Variable.{Variable}
use Rattle.linked_api.specs.FieldPaths.{IsStep, LeadsInto, LeadsToLeaf, field_named, path_numbers}
use Rattle.linked_api.specs.LinkedApi.{EachLeadsToLeaf, begins_path, overlap}
use Rattle.message_types.specs.Types.{field_of, fields_of}
use Rattle.message_types.specs.declared.fields.Field.{Field}
use Rattle.message_types.specs.declared.fields.Kind.{Kind}
use Rattle.message_types.specs.declared.fields.Kind.TheVariants.{One, Message}
use Rattle.message_types.specs.declared.messages.TypeId.{TypeId}
use Rattle.message_types.specs.declared.messages.Types.{Types}
use Rattle.schema.specs.Apart.{AreApart}
use Rattle.schema.specs.Soundness.{IsSound}
use Rattle.linked_bindings.specs.BindingFaults.{begins_names}
use Rattle.linked_bindings.specs.LinkedBinding.{paths_of, with_first}
use Rattle.linked_bindings.specs.RuleBindings.{paths_overlap}

-- a field that is found by a name has it
named_has : (fs : List Field) (name : List ℕ) (f : Field) → field_named fs name ≡ Some f → f.name ≡ name
named_has [] name f h = absurd (cc h)
named_has (g ∷ fs) name f h = pick (bytes_eq g.name name) refl (named_has fs name f) h
  where
    pick : (b : Bool) → bytes_eq g.name name ≡ b → (field_named fs name ≡ Some f → f.name ≡ name)
        → cond b (Some g) (field_named fs name) ≡ Some f → f.name ≡ name
    pick true e below k =
        let same : g ≡ f = cc k in
        ap (λ (x : Field). x.name) (sym same) ∙ (bytes_eq-Decides g.name name).0 e
    pick false e below k = below k

-- two steps of one number are one field
same_field : (types : Types) (id : TypeId) (name other : List ℕ) (n m : ℕ) (s : IsStep types id name n)
    (t : IsStep types id other m) → n ≡ m → s.field ≡ t.field
same_field types id name other n m s t e =
    let both : Some s.field ≡ Some t.field = sym s.by_number ∙ ap (field_of types id) e ∙ t.by_number in cc both

-- so they have one name
same_name : (types : Types) (id : TypeId) (name other : List ℕ) (n m : ℕ) (s : IsStep types id name n)
    (t : IsStep types id other m) → n ≡ m → bytes_eq name other ≡ true
same_name types id name other n m s t e =
    (bytes_eq-Decides name other).1
    (sym (named_has (fields_of types id) name s.field s.by_name)
    ∙ ap (λ (x : Field). x.name) (same_field types id name other n m s t e)
    ∙ named_has (fields_of types id) other t.field t.by_name)

-- a kind leads into one message
into_one : (types : Types) (k : Kind) (i j : TypeId) → LeadsInto types k i → LeadsInto types k j → i ≡ j
into_one types (One s) i j h l = absurd h
into_one types (Message k) i j h l = sym h.0 ∙ l.0

-- the two parts of a test that holds
and_parts : (a b : Bool) → (a && b) ≡ true → (a ≡ true) × (b ≡ true)
and_parts true b h = (refl, h)
and_parts false b h = absurd (cc h)

and_from : (a b : Bool) → a ≡ true → b ≡ true → (a && b) ≡ true
and_from true b h k = k
and_from false b h k = absurd (cc h)

-- where the numbers of one path begin those of another, its names do
begins_lead : (types : Types) (id : TypeId) (p q : List (List ℕ)) (ns ms : List ℕ) → LeadsToLeaf types id p ns
    → LeadsToLeaf types id q ms → begins_path ns ms ≡ true → begins_names p q ≡ true
begins_lead types id [] q ns ms h k e = absurd h
begins_lead types id (name ∷ []) q [] ms h k e = absurd h
begins_lead types id (name ∷ []) q (n ∷ x ∷ ns) ms h k e = absurd h
begins_lead types id (name ∷ []) [] (n ∷ []) ms h k e = absurd k
begins_lead types id (name ∷ []) (other ∷ []) (n ∷ []) [] h k e = absurd k
begins_lead types id (name ∷ []) (other ∷ []) (n ∷ []) (m ∷ []) h k e =
    and_from (bytes_eq name other) true
    (same_name types id name other n m h.0 k.0 (eqb-true n m (and_parts (nat_eq n m) true e).0)) refl
begins_lead types id (name ∷ []) (other ∷ []) (n ∷ []) (m ∷ y ∷ ms) h k e = absurd k
begins_lead types id (name ∷ []) (other ∷ last ∷ q) (n ∷ []) [] h k e = absurd k
begins_lead types id (name ∷ []) (other ∷ last ∷ q) (n ∷ []) (m ∷ ms) h k e =
    and_from (bytes_eq name other) true
    (same_name types id name other n m h.0 k.0 (eqb-true n m (and_parts (nat_eq n m) true e).0)) refl
begins_lead types id (name ∷ next ∷ p) q [] ms h k e = absurd h
begins_lead types id (name ∷ next ∷ p) [] (n ∷ ns) ms h k e = absurd k
begins_lead types id (name ∷ next ∷ p) (other ∷ []) (n ∷ ns) [] h k e = absurd k
begins_lead types id (name ∷ next ∷ p) (other ∷ []) (n ∷ ns) (m ∷ []) h k e =
    absurd (none_left p ns h.3 (and_parts (nat_eq n m) (begins_path ns []) e).1)
  where
    none_left : (rest : List (List ℕ)) (xs : List ℕ) → LeadsToLeaf types h.1 (next ∷ rest) xs
        → begins_path xs [] ≡ true → ⊥
    none_left [] [] l i = l
    none_left (z ∷ rest) [] l i = l
    none_left rest (x ∷ xs) l i = absurd (cc i)
begins_lead types id (name ∷ next ∷ p) (other ∷ []) (n ∷ ns) (m ∷ y ∷ ms) h k e = absurd k
begins_lead types id (name ∷ next ∷ p) (other ∷ last ∷ q) (n ∷ ns) [] h k e = absurd k
begins_lead types id (name ∷ next ∷ p) (other ∷ last ∷ q) (n ∷ ns) (m ∷ ms) h k e =
    let parts = and_parts (nat_eq n m) (begins_path ns ms) e in
    let number : n ≡ m = eqb-true n m parts.0 in
    let field = same_field types id name other n m h.0 k.0 number in
    let inner : k.1 ≡ h.1 =
    into_one types k.0.field.kind k.1 h.1 k.2 (subst (λ (x : Field). LeadsInto types x.kind h.1) field h.2) in
    and_from (bytes_eq name other) (begins_names (next ∷ p) (last ∷ q))
    (same_name types id name other n m h.0 k.0 number)
    (begins_lead types h.1 (next ∷ p) (last ∷ q) ns ms h.3
    (subst (λ (i : TypeId). LeadsToLeaf types i (last ∷ q) ms) inner k.3) parts.1)

-- so where no path of names begins the other, no path of numbers does
apart_numbers : (types : Types) (id : TypeId) (v w : Variable) (ns ms : List ℕ) → LeadsToLeaf types id v.path ns
    → LeadsToLeaf types id w.path ms → paths_overlap v w ≡ false → overlap ns ms ≡ false
apart_numbers types id v w ns ms h k e =
    or_from (begins_path ns ms) (begins_path ms ns)
    (false_from_ne_true (begins_path ns ms)
    (λ t. wrong (begins_names v.path w.path) (begins_names w.path v.path) (inl_true t) e))
    (false_from_ne_true (begins_path ms ns)
    (λ t. other (begins_names v.path w.path) (begins_names w.path v.path) (inr_true t) e))
  where
    inl_true : begins_path ns ms ≡ true → begins_names v.path w.path ≡ true
    inl_true t = begins_lead types id v.path w.path ns ms h k t

    inr_true : begins_path ms ns ≡ true → begins_names w.path v.path ≡ true
    inr_true t = begins_lead types id w.path v.path ms ns k h t

    wrong : (a b : Bool) → a ≡ true → (a || b) ≡ false → ⊥
    wrong true b i d = absurd (cc d)
    wrong false b i d = absurd (cc i)

    other : (a b : Bool) → b ≡ true → (a || b) ≡ false → ⊥
    other true b i d = absurd (cc d)
    other false true i d = absurd (cc d)
    other false false i d = absurd (cc i)

-- the numbers of the paths of variables lead to leaves
pub each_leads : ((types : Types) (id : TypeId) (names : List (List ℕ)) (numbers : List ℕ) → IsSound types
    → path_numbers types id names ≡ Some numbers → LeadsToLeaf types id names numbers)
    → (types : Types) (id : TypeId) (vs : List Variable) (ps : List (List ℕ)) → IsSound types
    → paths_of types id vs ≡ Some ps → EachLeadsToLeaf types id vs ps
each_leads found types id [] ps sound h =
    let same : [] ≡ ps = cc h in subst (EachLeadsToLeaf types id []) same tt
each_leads found types id (v ∷ vs) ps sound h =
    pick (path_numbers types id v.path) (paths_of types id vs) refl refl (λ qs. each_leads found types id vs qs sound) h
  where
    pick : (o : Option (List ℕ)) (os : Option (List (List ℕ))) → path_numbers types id v.path ≡ o
        → paths_of types id vs ≡ os
        → ((qs : List (List ℕ)) → paths_of types id vs ≡ Some qs → EachLeadsToLeaf types id vs qs)
        → with_first o os ≡ Some ps → EachLeadsToLeaf types id (v ∷ vs) ps
    pick None os e d below k = absurd (cc k)
    pick (Some p) None e d below k = absurd (cc k)
    pick (Some p) (Some qs) e d below k =
        let same : p ∷ qs ≡ ps = cc k in
        subst (EachLeadsToLeaf types id (v ∷ vs)) same (found types id v.path p sound e, below qs d)

-- one path is apart from each of others
one_apart : (types : Types) (id : TypeId) (v : Variable) (p : List ℕ) (vs : List Variable) (ps : List (List ℕ))
    → LeadsToLeaf types id v.path p → EachLeadsToLeaf types id vs ps
    → AllByRecursion (λ w. paths_overlap v w ≡ false) vs → AllByRecursion (λ q. overlap p q ≡ false) ps
one_apart types id v p [] [] h k a = tt
one_apart types id v p [] (q ∷ ps) h k a = absurd k
one_apart types id v p (w ∷ vs) [] h k a = absurd k
one_apart types id v p (w ∷ vs) (q ∷ ps) h k a =
    (apart_numbers types id v w p q h k.0 a.0, one_apart types id v p vs ps h k.1 a.1)

-- and so is each
pub all_apart : (types : Types) (id : TypeId) (vs : List Variable) (ps : List (List ℕ)) → EachLeadsToLeaf types id vs ps
    → AreApart paths_overlap vs → AreApart overlap ps
all_apart types id [] [] h a = tt
all_apart types id [] (p ∷ ps) h a = absurd h
all_apart types id (v ∷ vs) [] h a = absurd h
all_apart types id (v ∷ vs) (p ∷ ps) h a =
    (one_apart types id v p vs ps h.0 h.1 a.0, all_apart types id vs ps h.1 a.1)
