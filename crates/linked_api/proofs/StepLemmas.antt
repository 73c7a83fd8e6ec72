-- One step of a path: the field of a name, where it leads, and its number, which finds it again in sound types.
use Rattle.std.proofs.Common.{◌≡◌, ◌==◌, ℕ, Bool, true, false, cond, List, [], ◌∷◌, Option, Some, None, not, slice_get, option_and_then, option_map, unwrap_or, nat_eq, refl, sym, ap, subst, ◌∙◌, zero, suc}
use Rattle.std.proofs.lemmas.Bool.{eqb-true, eq-eqb}
use Rattle.std.specs.List.{AllByRecursion}
use Rattle.std.specs.Option.{option_map_or}
use Rattle.std.specs.Str.{bytes_eq}
use Rattle.linked_api.specs.FieldPaths.{IsLeaf, IsPlainMessage, IsSingular, IsStep, IsWellKnown, LeadsInto, field_named, if_singular, inner_message, inner_named, is_leaf, is_plain, is_plain_message, is_singular, is_well_known, leaf_named, leaf_number, numbered_inner, singular_named}
use Rattle.message_types.specs.Types.{field_in, fields_of}
use Rattle.message_types.specs.declared.fields.Field.{Field}
use Rattle.message_types.specs.declared.fields.Kind.{Kind}
use Rattle.message_types.specs.declared.fields.Kind.TheVariants.{One, Message}
use Rattle.message_types.specs.declared.fields.Shape.{Shape}
use Rattle.message_types.specs.declared.fields.Shape.TheVariants.{Single, Member, Many, Map}
use Rattle.message_types.specs.declared.messages.Known.{Known}
use Rattle.message_types.specs.declared.messages.Known.TheVariants.{Plain, Timestamp, Duration, FieldMask, Wrapper}
use Rattle.message_types.specs.declared.messages.MessageType.{MessageType}
use Rattle.message_types.specs.declared.messages.TypeId.{TypeId}
use Rattle.message_types.specs.declared.messages.Types.{Types}
use Rattle.schema.specs.Soundness.{AreNumbersApart, IsFreeNumber, IsSound, IsSoundMessage}

-- a singular shape passes the test, and only one
singular_is : (s : Shape) → is_singular s ≡ true → IsSingular s
singular_is Single h = tt
singular_is (Member k) h = tt
singular_is Many h = absurd (cc h)
singular_is (Map k) h = absurd (cc h)

is_singular_of : (s : Shape) → IsSingular s → is_singular s ≡ true
is_singular_of Single h = refl
is_singular_of (Member k) h = refl
is_singular_of Many h = absurd h
is_singular_of (Map k) h = absurd h

-- a message that is no well-known one passes the test, and only one
plain_is : (k : Known) → is_plain k ≡ true → k ≡ Plain
plain_is Plain h = refl
plain_is Timestamp h = absurd (cc h)
plain_is Duration h = absurd (cc h)
plain_is FieldMask h = absurd (cc h)
plain_is Wrapper h = absurd (cc h)

not_plain_is : (k : Known) → not (is_plain k) ≡ true → k ≡ Plain → ⊥
not_plain_is Plain h e = absurd (cc h)
not_plain_is Timestamp h e = cc
not_plain_is Duration h e = cc
not_plain_is FieldMask h e = cc
not_plain_is Wrapper h e = cc

is_not_plain : (k : Known) → (k ≡ Plain → ⊥) → not (is_plain k) ≡ true
is_not_plain Plain h = absurd (h refl)
is_not_plain Timestamp h = refl
is_not_plain Duration h = refl
is_not_plain FieldMask h = refl
is_not_plain Wrapper h = refl

plain_message_is : (types : Types) (id : TypeId) → is_plain_message types id ≡ true → IsPlainMessage types id
plain_message_is types id h = pick (slice_get types.messages id.0) refl h
  where
    pick : (o : Option MessageType) → slice_get types.messages id.0 ≡ o
        → option_map_or (λ (m : MessageType). is_plain m.known) o false ≡ true → IsPlainMessage types id
    pick None e k = absurd (cc k)
    pick (Some m) e k = record { message = m; message_is = e; plain = plain_is m.known k }

is_plain_message_of : (types : Types) (id : TypeId) → IsPlainMessage types id → is_plain_message types id ≡ true
is_plain_message_of types id h =
    ap (λ o. option_map_or (λ (m : MessageType). is_plain m.known) o false) h.message_is ∙ ap is_plain h.plain

well_known_is : (types : Types) (id : TypeId) → is_well_known types id ≡ true → IsWellKnown types id
well_known_is types id h = pick (slice_get types.messages id.0) refl h
  where
    pick : (o : Option MessageType) → slice_get types.messages id.0 ≡ o
        → option_map_or (λ (m : MessageType). not (is_plain m.known)) o false ≡ true → IsWellKnown types id
    pick None e k = absurd (cc k)
    pick (Some m) e k = record { message = m; message_is = e; known = not_plain_is m.known k }

is_well_known_of : (types : Types) (id : TypeId) → IsWellKnown types id → is_well_known types id ≡ true
is_well_known_of types id h =
    ap (λ o. option_map_or (λ (m : MessageType). not (is_plain m.known)) o false) h.message_is
    ∙ is_not_plain h.message.known h.known

-- a leaf passes the test, and only one
leaf_is : (types : Types) (k : Kind) → is_leaf types k ≡ true → IsLeaf types k
leaf_is types (One s) h = tt
leaf_is types (Message id) h = well_known_is types id h

is_leaf_of : (types : Types) (k : Kind) → IsLeaf types k → is_leaf types k ≡ true
is_leaf_of types (One s) h = refl
is_leaf_of types (Message id) h = is_well_known_of types id h

-- what a kind leads into is computed
inner_is : (types : Types) (k : Kind) (id : TypeId) → inner_message types k ≡ Some id → LeadsInto types k id
inner_is types (One s) id h = absurd (cc h)
inner_is types (Message j) id h = pick (is_plain_message types j) refl h
  where
    pick : (b : Bool) → is_plain_message types j ≡ b → cond b (Some j) None ≡ Some id → LeadsInto types (Message j) id
    pick true e k =
        let same : j ≡ id = cc k in
        (same, subst (IsPlainMessage types) same (plain_message_is types j e))
    pick false e k = absurd (cc k)

-- and is what it leads into
pub is_inner_of : (types : Types) (k : Kind) (id : TypeId) → LeadsInto types k id → inner_message types k ≡ Some id
is_inner_of types (One s) id h = absurd h
is_inner_of types (Message j) id h =
    let plain : is_plain_message types j ≡ true =
    is_plain_message_of types j (subst (IsPlainMessage types) (sym h.0) h.1) in
    ap (λ (b : Bool). cond b (Some j) None) plain ∙ ap (λ (i : TypeId). Some i) h.0

-- the number of a field that has been found is its own
number_of_found : (fs : List Field) (n : ℕ) (f : Field) → field_in fs n ≡ Some f → f.number ≡ n
number_of_found [] n f h = absurd (cc h)
number_of_found (g ∷ fs) n f h = pick (g.number == n) refl (number_of_found fs n f) h
  where
    pick : (b : Bool) → (g.number == n) ≡ b → (field_in fs n ≡ Some f → f.number ≡ n)
        → cond b (Some g) (field_in fs n) ≡ Some f → f.number ≡ n
    pick true e below k = let same : g ≡ f = cc k in ap (λ (x : Field). x.number) (sym same) ∙ eqb-true g.number n e
    pick false e below k = below k

-- where numbers are apart, a field that is found by its name has a number that is not free
named_number : (fs : List Field) (name : List ℕ) (f : Field) → field_named fs name ≡ Some f
    → (n : ℕ) → IsFreeNumber n fs → n ≡ f.number → ⊥
named_number [] name f h n free e = absurd (cc h)
named_number (g ∷ fs) name f h n free e =
    pick (bytes_eq g.name name) (λ k. named_number fs name f k n free.1 e) h
  where
    pick : (b : Bool) → (field_named fs name ≡ Some f → ⊥) → cond b (Some g) (field_named fs name) ≡ Some f → ⊥
    pick true below k =
        let same : g ≡ f = cc k in
        let hit : nat_eq n g.number ≡ true = eq-eqb n g.number (e ∙ ap (λ (x : Field). x.number) (sym same)) in
        absurd (cc (hit, free.0))
    pick false below k = below k

-- where numbers are apart, a field that is found by its name is found by its number
named_is_numbered : (fs : List Field) (name : List ℕ) (f : Field) → AreNumbersApart fs → field_named fs name ≡ Some f
    → field_in fs f.number ≡ Some f
named_is_numbered [] name f apart h = absurd (cc h)
named_is_numbered (g ∷ fs) name f apart h =
    pick (bytes_eq g.name name) (named_is_numbered fs name f apart.1) h
  where
    at : (b : Bool) → (g.number == f.number) ≡ b → field_named fs name ≡ Some f
        → (field_named fs name ≡ Some f → field_in fs f.number ≡ Some f)
        → cond b (Some g) (field_in fs f.number) ≡ Some f
    at true e k below = absurd (named_number fs name f k g.number apart.0 (eqb-true g.number f.number e))
    at false e k below = below k

    pick : (b : Bool) → (field_named fs name ≡ Some f → field_in fs f.number ≡ Some f)
        → cond b (Some g) (field_named fs name) ≡ Some f → field_in (g ∷ fs) f.number ≡ Some f
    pick true below k =
        let same : g ≡ f = cc k in
        let hit : (g.number == f.number) ≡ true = eq-eqb g.number f.number (ap (λ (x : Field). x.number) same) in
        ap (λ (b : Bool). cond b (Some g) (field_in fs f.number)) hit ∙ k
    pick false below k = at (g.number == f.number) refl k below

-- the numbers of the fields of each sound message are apart
listed_apart : (types : Types) (ms : List MessageType) (i : ℕ) → AllByRecursion (IsSoundMessage types) ms
    → AreNumbersApart (unwrap_or (option_map (λ (m : MessageType). m.fields) (slice_get ms i)) [])
listed_apart types [] i h = tt
listed_apart types (m ∷ ms) zero h = h.0.numbers
listed_apart types (m ∷ ms) (suc i) h = listed_apart types ms i h.1

-- in sound types the numbers of the fields of a type are apart
numbers_apart : (types : Types) (id : TypeId) → IsSound types → AreNumbersApart (fields_of types id)
numbers_apart types id sound = listed_apart types types.messages id.0 sound.messages

-- the singular field of a name is a step
singular_step : (types : Types) (id : TypeId) (name : List ℕ) (f : Field) → IsSound types
    → singular_named types id name ≡ Some f
    → (step : IsStep types id name f.number) × (step.field ≡ f)
singular_step types id name f sound h = pick (field_named (fields_of types id) name) refl h
  where
    at : (g : Field) (b : Bool) → field_named (fields_of types id) name ≡ Some g → is_singular g.shape ≡ b
        → cond b (Some g) None ≡ Some f → (step : IsStep types id name f.number) × (step.field ≡ f)
    at g true e i k =
        let same : g ≡ f = cc k in
        let found : field_named (fields_of types id) name ≡ Some f = e ∙ k in (
          record {
            field = f;
            by_name = found;
            by_number = named_is_numbered (fields_of types id) name f (numbers_apart types id sound) found;
            singular = subst (λ (x : Field). IsSingular x.shape) same (singular_is g.shape i);
          },
          refl,
        )
    at g false e i k = absurd (cc k)

    pick : (o : Option Field) → field_named (fields_of types id) name ≡ o → option_and_then if_singular o ≡ Some f
        → (step : IsStep types id name f.number) × (step.field ≡ f)
    pick None e k = absurd (cc k)
    pick (Some g) e k = at g (is_singular g.shape) e refl k

-- the field of a step is the singular field of the name, and its number is that of the step
step_singular : (types : Types) (id : TypeId) (name : List ℕ) (n : ℕ) (step : IsStep types id name n)
    → singular_named types id name ≡ Some step.field
step_singular types id name n step =
    ap (option_and_then if_singular) step.by_name
    ∙ ap (λ (b : Bool). cond b (Some step.field) None) (is_singular_of step.field.shape step.singular)

step_number : (types : Types) (id : TypeId) (name : List ℕ) (n : ℕ) (step : IsStep types id name n)
    → step.field.number ≡ n
step_number types id name n step = number_of_found (fields_of types id) n step.field step.by_number

-- the number of a leaf's name is that of a step to a leaf
pub leaf_step : (types : Types) (id : TypeId) (name : List ℕ) (n : ℕ) → IsSound types
    → leaf_named types id name ≡ Some n
    → (step : IsStep types id name n) × IsLeaf types step.field.kind
leaf_step types id name n sound h = pick (singular_named types id name) refl h
  where
    at : (f : Field) (b : Bool) → singular_named types id name ≡ Some f → is_leaf types f.kind ≡ b
        → cond b (Some f.number) None ≡ Some n → (step : IsStep types id name n) × IsLeaf types step.field.kind
    at f true e i k =
        let s = singular_step types id name f sound e in
        let leaf : IsLeaf types s.0.field.kind =
        subst (λ (x : Field). IsLeaf types x.kind) (sym s.1) (leaf_is types f.kind i) in
        let same : f.number ≡ n = cc k in
        subst (λ (m : ℕ). (step : IsStep types id name m) × IsLeaf types step.field.kind) same (s.0, leaf)
    at f false e i k = absurd (cc k)

    pick : (o : Option Field) → singular_named types id name ≡ o → option_and_then (leaf_number types) o ≡ Some n
        → (step : IsStep types id name n) × IsLeaf types step.field.kind
    pick None e k = absurd (cc k)
    pick (Some f) e k = at f (is_leaf types f.kind) e refl k

-- and that of a step to a leaf is computed
pub step_leaf : (types : Types) (id : TypeId) (name : List ℕ) (n : ℕ) (step : IsStep types id name n)
    → IsLeaf types step.field.kind → leaf_named types id name ≡ Some n
step_leaf types id name n step leaf =
    ap (option_and_then (leaf_number types)) (step_singular types id name n step)
    ∙ ap (λ (b : Bool). cond b (Some step.field.number) None) (is_leaf_of types step.field.kind leaf)
    ∙ ap (λ (m : ℕ). Some m) (step_number types id name n step)

-- a name that leads into a plain message is a step into it
pub inner_step : (types : Types) (id : TypeId) (name : List ℕ) (n : ℕ) (inner : TypeId) → IsSound types
    → inner_named types id name ≡ Some (n, inner)
    → (step : IsStep types id name n) × LeadsInto types step.field.kind inner
inner_step types id name n inner sound h = pick (singular_named types id name) refl h
  where
    at : (f : Field) (o : Option TypeId) → singular_named types id name ≡ Some f → inner_message types f.kind ≡ o
        → option_map {U = ℕ × TypeId} (λ (i : TypeId). (f.number, i)) o ≡ Some (n, inner)
        → (step : IsStep types id name n) × LeadsInto types step.field.kind inner
    at f None e i k = absurd (cc k)
    at f (Some j) e i k =
        let s = singular_step types id name f sound e in
        let pair : ◌≡◌ {A = ℕ × TypeId} (f.number, j) (n, inner) = cc k in
        let number : f.number ≡ n = ap (λ (x : ℕ × TypeId). x.0) pair in
        let same : j ≡ inner = ap (λ (x : ℕ × TypeId). x.1) pair in
        let into : LeadsInto types s.0.field.kind inner =
        subst (λ (x : Field). LeadsInto types x.kind inner) (sym s.1)
        (inner_is types f.kind inner (i ∙ ap (λ (x : TypeId). Some x) same)) in
        subst (λ (m : ℕ). (step : IsStep types id name m) × LeadsInto types step.field.kind inner) number (s.0, into)

    pick : (o : Option Field) → singular_named types id name ≡ o
        → option_and_then (numbered_inner types) o ≡ Some (n, inner)
        → (step : IsStep types id name n) × LeadsInto types step.field.kind inner
    pick None e k = absurd (cc k)
    pick (Some f) e k = at f (inner_message types f.kind) e refl k

-- a number and the type that it leads into
abbrev step_into : ℕ → TypeId → Option (ℕ × TypeId)
step_into n inner = Some (n, inner)

-- and a step into a plain message is computed
pub step_inner : (types : Types) (id : TypeId) (name : List ℕ) (n : ℕ) (inner : TypeId) (step : IsStep types id name n)
    → LeadsInto types step.field.kind inner → inner_named types id name ≡ Some (n, inner)
step_inner types id name n inner step into =
    ap (option_and_then (numbered_inner types)) (step_singular types id name n step)
    ∙ ap (option_map {U = ℕ × TypeId} (λ (i : TypeId). (step.field.number, i)))
    (is_inner_of types step.field.kind inner into)
    ∙ ap (λ (m : ℕ). step_into m inner) (step_number types id name n step)
