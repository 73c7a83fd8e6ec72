-- What names name is found again by its numbers, in sound types.
use Rattle.std.proofs.Common.{◌≡◌, ◌∙◌, ◌==◌, ◌||◌, ◌++◌, ℕ, zero, suc, Bool, true, false, cond, List, [], ◌∷◌, Option, Some, None, nat_eq, slice_get, option_and_then, option_map, unwrap_or, append_assoc, refl, sym, ap, subst}
use Rattle.std.proofs.lemmas.Bool.{eq-eqb, eqb-true}
use Rattle.std.specs.List.{AllByRecursion}
use Rattle.std.specs.Option.{option_map_or}
use Rattle.std.specs.Str.{bytes_eq}
use Rattle.json_meanings.specs.PartialMessages.{field_named}
use Rattle.linked_api.specs.FieldPaths.{IsPlainMessage, IsSingular, LeadsInto, inner_message, is_plain, is_plain_message, is_singular}
use Rattle.linked_api.specs.NumberPaths.{IsNumberStep}
use Rattle.message_types.specs.Types.{field_in, field_of, fields_of}
use Rattle.message_types.specs.declared.fields.Field.{Field}
use Rattle.message_types.specs.declared.fields.Kind.{Kind}
use Rattle.message_types.specs.declared.fields.Kind.TheVariants.{One as OneOf, Message as MessageOf}
use Rattle.message_types.specs.declared.fields.Shape.{Shape}
use Rattle.message_types.specs.declared.fields.Shape.TheVariants.{Single, Member, Many, Map}
use Rattle.message_types.specs.declared.messages.Known.{Known}
use Rattle.message_types.specs.declared.messages.Known.TheVariants.{Plain, Timestamp, Duration, FieldMask, Wrapper}
use Rattle.message_types.specs.declared.messages.MessageType.{MessageType}
use Rattle.message_types.specs.declared.messages.TypeId.{TypeId}
use Rattle.message_types.specs.declared.messages.Types.{Types}
use Rattle.query_settings.specs.QueryTargets.{named, numbers_of, passes, step_of, target_at}
use Rattle.query_settings.specs.declared.targets.Step.{Step}
use Rattle.query_settings.specs.declared.targets.Target.{Target}
use Rattle.schema.specs.Soundness.{AreNumbersApart, IsFreeNumber, IsSound, IsSoundMessage}

-- ---- by number

-- a field that a key finds has a number that is not free
key_number : (fs : List Field) (key : List ℕ) (f : Field) → field_named key fs ≡ Some f
    → (n : ℕ) → IsFreeNumber n fs → n ≡ f.number → ⊥
key_number [] key f h n free e = absurd (cc h)
key_number (g ∷ fs) key f h n free e =
    pick (bytes_eq key g.json || bytes_eq key g.name) (λ k. key_number fs key f k n free.1 e) h
  where
    pick : (b : Bool) → (field_named key fs ≡ Some f → ⊥) → cond b (Some g) (field_named key fs) ≡ Some f → ⊥
    pick true below k =
        let same : g ≡ f = cc k in
        let hit : nat_eq n g.number ≡ true = eq-eqb n g.number (e ∙ ap (λ (x : Field). x.number) (sym same)) in
        absurd (cc (hit, free.0))
    pick false below k = below k

-- a field that a key finds is found by its number, where numbers are apart
key_numbered : (fs : List Field) (key : List ℕ) (f : Field) → AreNumbersApart fs → field_named key fs ≡ Some f
    → field_in fs f.number ≡ Some f
key_numbered [] key f apart h = absurd (cc h)
key_numbered (g ∷ fs) key f apart h =
    pick (bytes_eq key g.json || bytes_eq key g.name) (key_numbered fs key f apart.1) h
  where
    at : (b : Bool) → (g.number == f.number) ≡ b → field_named key fs ≡ Some f
        → (field_named key fs ≡ Some f → field_in fs f.number ≡ Some f)
        → cond b (Some g) (field_in fs f.number) ≡ Some f
    at true e k below = absurd (key_number fs key f k g.number apart.0 (eqb-true g.number f.number e))
    at false e k below = below k

    pick : (b : Bool) → (field_named key fs ≡ Some f → field_in fs f.number ≡ Some f)
        → cond b (Some g) (field_named key fs) ≡ Some f → field_in (g ∷ fs) f.number ≡ Some f
    pick true below k =
        let same : g ≡ f = cc k in
        let hit : (g.number == f.number) ≡ true = eq-eqb g.number f.number (ap (λ (x : Field). x.number) same) in
        ap (λ (b : Bool). cond b (Some g) (field_in fs f.number)) hit ∙ k
    pick false below k = at (g.number == f.number) refl k below

found_again : (types : Types) (id : TypeId) (key : List ℕ) (f : Field) → IsSound types
    → field_named key (fields_of types id) ≡ Some f → field_of types id f.number ≡ Some f
found_again types id key f sound h =
    key_numbered (fields_of types id) key f (apart types.messages id.0 sound.messages) h
  where
    apart : (ms : List MessageType) (i : ℕ) → AllByRecursion (IsSoundMessage types) ms
        → AreNumbersApart (unwrap_or (option_map (λ (m : MessageType). m.fields) (slice_get ms i)) [])
    apart [] i all = tt
    apart (m ∷ ms) zero all = all.0.numbers
    apart (m ∷ ms) (suc i) all = apart ms i all.1

-- ---- where a way passes on

plain_there : (types : Types) (id : TypeId) → is_plain_message types id ≡ true → IsPlainMessage types id
plain_there types id h = pick (slice_get types.messages id.0) refl h
  where
    plain : (k : Known) → is_plain k ≡ true → k ≡ Plain
    plain Plain e = refl
    plain Timestamp e = absurd (cc e)
    plain Duration e = absurd (cc e)
    plain FieldMask e = absurd (cc e)
    plain Wrapper e = absurd (cc e)

    pick : (o : Option MessageType) → slice_get types.messages id.0 ≡ o
        → option_map_or (λ (m : MessageType). is_plain m.known) o false ≡ true → IsPlainMessage types id
    pick None e k = absurd (cc k)
    pick (Some m) e k = record { message = m; message_is = e; plain = plain m.known k }

leads_in : (types : Types) (kind : Kind) (inner : TypeId) → inner_message types kind ≡ Some inner
    → LeadsInto types kind inner
leads_in types (OneOf s) inner h = absurd (cc h)
leads_in types (MessageOf id) inner h = pick (is_plain_message types id) refl h
  where
    pick : (b : Bool) → is_plain_message types id ≡ b → cond b (Some id) None ≡ Some inner
        → LeadsInto types (MessageOf id) inner
    pick true e k =
        let same : id ≡ inner = cc k in (same, subst (IsPlainMessage types) same (plain_there types id e))
    pick false e k = absurd (cc k)

-- a way passes on at a singular field of a plain message
record PassesOn (types : Types) (f : Field) (inner : TypeId) : Type 0 where
  singular : IsSingular f.shape
  into : LeadsInto types f.kind inner

passes_on : (types : Types) (f : Field) (inner : TypeId) → passes types f ≡ Some inner → PassesOn types f inner
passes_on types f inner h = pick (is_singular f.shape) refl h
  where
    singular : (s : Shape) → is_singular s ≡ true → IsSingular s
    singular Single e = tt
    singular (Member k) e = tt
    singular Many e = absurd (cc e)
    singular (Map k) e = absurd (cc e)

    pick : (b : Bool) → is_singular f.shape ≡ b → cond b (inner_message types f.kind) None ≡ Some inner
        → PassesOn types f inner
    pick true e k = record { singular = singular f.shape e; into = leads_in types f.kind inner k }
    pick false e k = absurd (cc k)

-- ---- whole names

-- numbers lead from a type to a field of this kind and shape
abbrev pub LeadsTo : Types → TypeId → List ℕ → Kind → Shape → Type 0
LeadsTo types id [] kind shape = ⊥
LeadsTo types id (n ∷ []) kind shape =
    (f : Field) × (field_of types id n ≡ Some f) × (f.kind ≡ kind) × (f.shape ≡ shape)
LeadsTo types id (n ∷ m ∷ path) kind shape =
    (step : IsNumberStep types id n) × (next : TypeId) × LeadsInto types step.field.kind next
    × LeadsTo types next (m ∷ path) kind shape

-- what is named behind a way: the steps behind it, whose numbers lead from the type to the field
record NamedBehind (types : Types) (id : TypeId) (way : List Step) (t : Target) : Type 0 where
  steps : List Step
  all : t.steps ≡ way ++ steps
  leads : LeadsTo types id (numbers_of steps) t.kind t.shape

one_more_step : (types : Types) (id inner : TypeId) (f : Field) (steps : List Step) (kind : Kind) (shape : Shape)
    → field_of types id f.number ≡ Some f → PassesOn types f inner → LeadsTo types inner (numbers_of steps) kind shape
    → LeadsTo types id (f.number ∷ numbers_of steps) kind shape
one_more_step types id inner f [] kind shape found on h = absurd h
one_more_step types id inner f (r ∷ steps) kind shape found on h =
    (record { field = f; field_is = found; singular = on.singular }, inner, on.into, h)

module _ (types : Types) (sound : IsSound types) where
  last_named : (id : TypeId) (way : List Step) (name : List ℕ) (t : Target) (o : Option Field)
      → field_named name (fields_of types id) ≡ o → option_map (target_at way) o ≡ Some t → NamedBehind types id way t
  last_named id way name t None e h = absurd (cc h)
  last_named id way name t (Some f) e h =
      let same : target_at way f ≡ t = cc h in
      record {
        steps = step_of f ∷ [];
        all = ap (λ (x : Target). x.steps) (sym same);
        leads = (
          f,
          found_again types id name f sound e,
          ap (λ (x : Target). x.kind) same,
          ap (λ (x : Target). x.shape) same,
        );
      }

  next_named : (id : TypeId) (way : List Step) (name : List ℕ) (names : List (List ℕ)) (t : Target)
      → ((inner : TypeId) (further : List Step) → named types inner further names ≡ Some t
      → NamedBehind types inner further t)
      → (o : Option Field) → field_named name (fields_of types id) ≡ o
      → option_and_then (λ (f : Field).
      option_and_then (λ (inner : TypeId). named types inner (way ++ step_of f ∷ []) names) (passes types f)) o ≡ Some t
      → NamedBehind types id way t
  next_named id way name names t below None e h = absurd (cc h)
  next_named id way name names t below (Some f) e h = pick (passes types f) refl h
    where
      behind : (inner : TypeId) → passes types f ≡ Some inner → NamedBehind types inner (way ++ step_of f ∷ []) t
          → NamedBehind types id way t
      behind inner p b = record {
        steps = step_of f ∷ b.steps;
        all = b.all ∙ append_assoc way (step_of f ∷ []) b.steps;
        leads =
            one_more_step types id inner f b.steps t.kind t.shape (found_again types id name f sound e)
            (passes_on types f inner p) b.leads;
      }

      pick : (p : Option TypeId) → passes types f ≡ p
          → option_and_then (λ (inner : TypeId). named types inner (way ++ step_of f ∷ []) names) p ≡ Some t
          → NamedBehind types id way t
      pick None d k = absurd (cc k)
      pick (Some inner) d k = behind inner d (below inner (way ++ step_of f ∷ []) k)

  named_behind : (names : List (List ℕ)) (id : TypeId) (way : List Step) (t : Target)
      → named types id way names ≡ Some t → NamedBehind types id way t
  named_behind [] id way t h = absurd (cc h)
  named_behind (name ∷ []) id way t h = last_named id way name t (field_named name (fields_of types id)) refl h
  named_behind (name ∷ next ∷ names) id way t h =
      next_named id way name (next ∷ names) t (λ inner further k. named_behind (next ∷ names) inner further t k)
      (field_named name (fields_of types id)) refl h

  -- the numbers of what is named lead to it
  pub named_leads : (names : List (List ℕ)) (id : TypeId) (t : Target) → named types id [] names ≡ Some t
      → LeadsTo types id (numbers_of t.steps) t.kind t.shape
  named_leads names id t h =
      let b = named_behind names id [] t h in
      subst (λ (steps : List Step). LeadsTo types id (numbers_of steps) t.kind t.shape) (sym b.all) b.leads

-- numbers lead to one kind
one_inner : (types : Types) (kind : Kind) (a b : TypeId) → LeadsInto types kind a → LeadsInto types kind b → a ≡ b
one_inner types (OneOf s) a b h g = absurd h
one_inner types (MessageOf id) a b h g = sym h.0 ∙ g.0

-- a way leads to one kind
pub one_kind_led : (types : Types) (path : List ℕ) (id : TypeId) (k l : Kind) (s r : Shape)
    → LeadsTo types id path k s → LeadsTo types id path l r → k ≡ l
one_kind_led types [] id k l s r h g = absurd h
one_kind_led types (n ∷ []) id k l s r h g =
    let found : Some h.0 ≡ Some g.0 = sym h.1 ∙ g.1 in
    let same : h.0 ≡ g.0 = cc found in sym h.2 ∙ ap (λ (f : Field). f.kind) same ∙ g.2
one_kind_led types (n ∷ m ∷ path) id k l s r h g =
    let found : Some h.0.field ≡ Some g.0.field = sym h.0.field_is ∙ g.0.field_is in
    let same : h.0.field ≡ g.0.field = cc found in
    let next : h.1 ≡ g.1 =
    one_inner types g.0.field.kind h.1 g.1
    (subst (λ (f : Field). LeadsInto types f.kind h.1) same h.2) g.2 in
    one_kind_led types (m ∷ path) g.1 k l s r
    (subst (λ (i : TypeId). LeadsTo types i (m ∷ path) k s) next h.3) g.3
