-- A request has one answer, but for out of memory: what it is told by its route, its form, the values of its path, its
-- body and its message in turn.
use Rattle.std.proofs.Common.{◌≡◌, ◌≢◌, ◌<◌, ◌≤◌, ◌⊎◌, ℕ, List, [], ◌∷◌, length, Result, Ok, Err, refl, sym, ap, ◌∙◌, subst, inl, inr, arith}
use Rattle.std.specs.List.{AllByRecursion}
use Rattle.field_binding.specs.Assignments.{Assignments}
use Rattle.field_binding.specs.PathSettings.{IsPathBinding}
use Rattle.field_binding.specs.RequestMessages.{IsRequestMessage}
use Rattle.field_binding.specs.declared.fault.BindFault.{BindFault}
use Rattle.field_binding.specs.declared.fault.BindFault.TheVariants as binds
use Rattle.gate_world.specs.declared.refusal.Refusal.TheVariants as refusals
use Rattle.gate_world.specs.declared.value_fault.ValueFault.{ValueFault}
use Rattle.http_rules.specs.Template.{IsTemplate}
use Rattle.http_rules.specs.declared.template.Binding.{Binding}
use Rattle.linked_api.specs.declared.api.Api.{Api}
use Rattle.linked_api.specs.declared.api.MethodInfo.{MethodInfo}
use Rattle.path_router.specs.RouteChoice.{IsChoice}
use Rattle.path_router.specs.TargetPath.{IsTargetPath}
use Rattle.path_router.specs.declared.captures.Span.{Span}
use Rattle.path_router.specs.declared.routed.Routed.{Routed}
use Rattle.path_router.specs.declared.routed.Routed.TheVariants.{Found, WrongMethod, NotFound}
use Rattle.schema.specs.declared.value.Value.{Value}
use Rattle.transcoding.proofs.CallLemmas.{one_call}
use Rattle.transcoding.specs.BuiltForms.{IsBuilt}
use Rattle.transcoding.specs.RoutedRequest.{IsMethodNotAllowed, IsMethodNotServed, IsPathUnknown, IsRouted}
use Rattle.transcoding.specs.TranscodedRequest.{IsBoundRequest, IsMessageOf, IsTranscoding, TranscodedRequest, value_fault_of}
use Rattle.transcoding.specs.declared.refusal.RequestRefusal.{RequestRefusal}
use Rattle.transcoding.specs.declared.refusal.RequestRefusal.TheVariants.{NotBuilt, Listed}
use Rattle.wire_format.specs.CanonicalBytes.{canonical_bytes}

-- an answer to a request
abbrev pub Answer : Type 0
Answer = Result TranscodedRequest RequestRefusal

-- ---- the laws of the crates below

-- a target has one path
abbrev pub OnePath : Type 0
OnePath = (target p q : List ℕ) → IsTargetPath target p → IsTargetPath target q → p ≡ q

-- a request is routed in one way
abbrev pub OneChoice : Type 0
OneChoice =
    (bindings : List Binding) (method path : List ℕ) (r s : Routed)
    → AllByRecursion (λ (b : Binding). IsTemplate b.template) bindings → IsChoice bindings method path r
    → IsChoice bindings method path s → r ≡ s

-- a path is bound in one way
abbrev pub OneBinding : Type 0
OneBinding =
    (api : Api) (index : ℕ) (path : List ℕ) (spans : List Span) (r s : Result Assignments BindFault)
    → IsPathBinding api index path spans r → IsPathBinding api index path spans s → r ≢ Err binds.NoMemory
    → s ≢ Err binds.NoMemory → r ≡ s

-- a request has one message
abbrev pub OneMessage : Type 0
OneMessage =
    (api : Api) (index : ℕ) (a : Assignments) (v w : Value) → IsRequestMessage api index a v
    → IsRequestMessage api index a w → v ≡ w

-- ---- an answer step by step

-- what is told of a message
abbrev Sized : List ℕ → List ℕ → Answer → Type 0
Sized path bytes r =
    ((1048576 < length bytes) × (r ≡ Err (Listed refusals.MessageTooLong)))
    ⊎ ((length bytes ≤ 1048576) × (r ≡ Ok (record { path = path; messages = bytes ∷ [] })))

-- what is told of a bound request whose body is within its limit
record Sent (api : Api) (index : ℕ) (a : Assignments) (r : Answer) : Type 0 where
  path : List ℕ
  bytes : List ℕ
  message : IsMessageOf api index a path bytes
  sized : Sized path bytes r

-- what is told of a bound request
abbrev Sends : Api → List ℕ → ℕ → Assignments → Answer → Type 0
Sends api body index a r =
    ((1048576 < length body) × (r ≡ Err (Listed refusals.BodyTooLong))) ⊎ ((length body ≤ 1048576) × Sent api index a r)

-- what is told of a path that is bound, or of which a value is wrong
abbrev After : Api → List ℕ → ℕ → Result Assignments BindFault → Answer → Type 0
After api body index (Ok a) r = Sends api body index a r
After api body index (Err (binds.Path n kind)) r = r ≡ Err (Listed (refusals.PathValue n (value_fault_of kind)))
After api body index (Err binds.NoMemory) r = ⊥

-- what is told of a request that can be read
record Read (api : Api) (body path : List ℕ) (index : ℕ) (spans : List Span) (r : Answer) : Type 0 where
  result : Result Assignments BindFault
  bound : IsPathBinding api index path spans result
  after : After api body index result r

-- what is told of a request that is routed
abbrev Formed : Api → List ℕ → List ℕ → List ℕ → ℕ → List Span → Answer → Type 0
Formed api target body path index spans r =
    ((IsBuilt api target index → ⊥) × (r ≡ Err NotBuilt))
    ⊎ (IsBuilt api target index × Read api body path index spans r)

-- a request is routed, and this is told of it
record Leads (api : Api) (method target body : List ℕ) (r : Answer) : Type 0 where
  path : List ℕ
  index : ℕ
  spans : List Span
  routed : IsRouted api method target path index spans
  formed : Formed api target body path index spans r

-- what is told of a request whose method is served
abbrev Served : Api → List ℕ → List ℕ → List ℕ → Answer → Type 0
Served api method target body r =
    (IsPathUnknown api method target × (r ≡ Err (Listed refusals.PathUnknown)))
    ⊎ ((IsMethodNotAllowed api method target × (r ≡ Err (Listed refusals.MethodNotAllowed)))
    ⊎ Leads api method target body r)

-- what is told of a request
abbrev Told : Api → List ℕ → List ℕ → List ℕ → Answer → Type 0
Told api method target body r =
    (IsMethodNotServed method × (r ≡ Err (Listed refusals.MethodNotServed))) ⊎ Served api method target body r

-- the refusal of a wrong value
abbrev wrong_value : ℕ → ValueFault → Answer
wrong_value n fault = Err (Listed (refusals.PathValue n fault))

-- ---- each step tells one thing

one_sized : (p x q y : List ℕ) (r s : Answer) → p ≡ q → x ≡ y → Sized p x r → Sized q y s → r ≡ s
one_sized p x q y r s e f (inl a) (inl b) = a.1 ∙ sym b.1
one_sized p x q y r s e f (inl a) (inr b) = absurd (omega (arith, a.0, b.0, ap length f))
one_sized p x q y r s e f (inr a) (inl b) = absurd (omega (arith, a.0, b.0, ap length f))
one_sized p x q y r s e f (inr a) (inr b) =
    let same : Ok (record { path = p; messages = x ∷ [] }) ≡ Ok (record { path = q; messages = y ∷ [] }) = cc (e, f) in
    a.1 ∙ same ∙ sym b.1

-- the message of a request has one path and one list of bytes
one_message_of : OneMessage → (api : Api) (index : ℕ) (a : Assignments) (p x q y : List ℕ) → IsMessageOf api index a p x
    → IsMessageOf api index a q y → (p ≡ q) × (x ≡ y)
one_message_of law api index a p x q y m n =
    let methods = one_call api index m.binding n.binding m.method n.method m.call n.call in
    let values = law api index a m.message n.message m.message_is n.message_is in (
      m.path_is ∙ ap (λ (z : MethodInfo). z.path) methods ∙ sym n.path_is,
      m.bytes_are ∙ ap (λ (z : MethodInfo). canonical_bytes api.types z.input m.message) methods
          ∙ ap (canonical_bytes api.types n.method.input) values ∙ sym n.bytes_are,
    )

one_sent : OneMessage → (api : Api) (index : ℕ) (a : Assignments) (r s : Answer) → Sent api index a r
    → Sent api index a s → r ≡ s
one_sent law api index a r s m n =
    let same = one_message_of law api index a m.path m.bytes n.path n.bytes m.message n.message in
    one_sized m.path m.bytes n.path n.bytes r s same.0 same.1 m.sized n.sized

one_sends : OneMessage → (api : Api) (body : List ℕ) (index : ℕ) (a : Assignments) (r s : Answer)
    → Sends api body index a r → Sends api body index a s → r ≡ s
one_sends law api body index a r s (inl m) (inl n) = m.1 ∙ sym n.1
one_sends law api body index a r s (inl m) (inr n) = absurd (omega (arith, m.0, n.0))
one_sends law api body index a r s (inr m) (inl n) = absurd (omega (arith, m.0, n.0))
one_sends law api body index a r s (inr m) (inr n) = one_sent law api index a r s m.1 n.1

one_after : OneMessage → (api : Api) (body : List ℕ) (index : ℕ) (x : Result Assignments BindFault) (r s : Answer)
    → After api body index x r → After api body index x s → r ≡ s
one_after law api body index (Ok a) r s m n = one_sends law api body index a r s m n
one_after law api body index (Err (binds.Path k kind)) r s m n = m ∙ sym n
one_after law api body index (Err binds.NoMemory) r s m n = absurd m

-- what is told of a path is not told of out of memory
some_binding : (api : Api) (body : List ℕ) (index : ℕ) (x : Result Assignments BindFault) (r : Answer)
    → After api body index x r → x ≢ Err binds.NoMemory
some_binding api body index x r h e = subst (λ z. After api body index z r) e h

one_read : OneBinding → OneMessage → (api : Api) (body path : List ℕ) (index : ℕ) (spans : List Span) (r s : Answer)
    → Read api body path index spans r → Read api body path index spans s → r ≡ s
one_read law messages api body path index spans r s a b =
    let same =
    law api index path spans a.result b.result a.bound b.bound (some_binding api body index a.result r a.after)
    (some_binding api body index b.result s b.after) in
    one_after messages api body index b.result r s (subst (λ z. After api body index z r) same a.after) b.after

one_formed : OneBinding → OneMessage → (api : Api) (target body path : List ℕ) (index : ℕ) (spans : List Span)
    (r s : Answer) → Formed api target body path index spans r → Formed api target body path index spans s → r ≡ s
one_formed law messages api target body path index spans r s (inl a) (inl b) = a.1 ∙ sym b.1
one_formed law messages api target body path index spans r s (inl a) (inr b) = absurd (a.0 b.0)
one_formed law messages api target body path index spans r s (inr a) (inl b) = absurd (b.0 a.0)
one_formed law messages api target body path index spans r s (inr a) (inr b) =
    one_read law messages api body path index spans r s a.1 b.1

module _ (one_path : OnePath) (one_choice : OneChoice) (one_binding : OneBinding) (one_message : OneMessage)
    (api : Api) (method target body : List ℕ)
    (parsed : AllByRecursion (λ (b : Binding). IsTemplate b.template) api.bindings) where
  one_leads : (r s : Answer) → Leads api method target body r → Leads api method target body s → r ≡ s
  one_leads r s a b =
      let paths = one_path target a.path b.path a.routed.target_path b.routed.target_path in
      let found = subst (λ z. IsChoice api.bindings method z (Found a.index a.spans)) paths a.routed.found in
      let same : Found a.index a.spans ≡ Found b.index b.spans =
      one_choice api.bindings method b.path (Found a.index a.spans) (Found b.index b.spans) parsed found b.routed.found in
      let indexes : a.index ≡ b.index = cc same in
      let spans : a.spans ≡ b.spans = cc same in
      let first = subst (λ z. Formed api target body z a.index a.spans r) paths a.formed in
      let second = subst (λ z. Formed api target body b.path z a.spans r) indexes first in
      let third = subst (λ z. Formed api target body b.path b.index z r) spans second in
      one_formed one_binding one_message api target body b.path b.index b.spans r s third b.formed

  -- an unknown path is not routed, nor has it a wrong method
  not_led : (r : Answer) → IsPathUnknown api method target → Leads api method target body r → ⊥
  not_led r u l =
      let same : NotFound ≡ Found l.index l.spans =
      one_choice api.bindings method l.path NotFound (Found l.index l.spans) parsed
      (u.unknown l.path l.routed.target_path) l.routed.found in
      absurd (cc same)

  not_wrong : IsPathUnknown api method target → IsMethodNotAllowed api method target → ⊥
  not_wrong u w =
      let same : NotFound ≡ WrongMethod w.bits =
      one_choice api.bindings method w.path NotFound (WrongMethod w.bits) parsed (u.unknown w.path w.target_path)
      w.wrong in
      absurd (cc same)

  -- a method that is not allowed is not routed
  not_allowed : (r : Answer) → IsMethodNotAllowed api method target → Leads api method target body r → ⊥
  not_allowed r w l =
      let paths = one_path target w.path l.path w.target_path l.routed.target_path in
      let wrong = subst (λ z. IsChoice api.bindings method z (WrongMethod w.bits)) paths w.wrong in
      let same : WrongMethod w.bits ≡ Found l.index l.spans =
      one_choice api.bindings method l.path (WrongMethod w.bits) (Found l.index l.spans) parsed wrong l.routed.found in
      absurd (cc same)

  one_served : (r s : Answer) → Served api method target body r → Served api method target body s → r ≡ s
  one_served r s (inl a) (inl b) = a.1 ∙ sym b.1
  one_served r s (inl a) (inr (inl b)) = absurd (not_wrong a.0 b.0)
  one_served r s (inl a) (inr (inr b)) = absurd (not_led s a.0 b)
  one_served r s (inr (inl a)) (inl b) = absurd (not_wrong b.0 a.0)
  one_served r s (inr (inl a)) (inr (inl b)) = a.1 ∙ sym b.1
  one_served r s (inr (inl a)) (inr (inr b)) = absurd (not_allowed s a.0 b)
  one_served r s (inr (inr a)) (inl b) = absurd (not_led r b.0 a)
  one_served r s (inr (inr a)) (inr (inl b)) = absurd (not_allowed r b.0 a)
  one_served r s (inr (inr a)) (inr (inr b)) = one_leads r s a b

  -- what is told of a served method is not told of one that is not
  is_served : (r : Answer) → Served api method target body r → IsMethodNotServed method → ⊥
  is_served r (inl a) h = a.0.served h
  is_served r (inr (inl a)) h = a.0.served h
  is_served r (inr (inr a)) h = a.routed.served h

  one_told : (r s : Answer) → Told api method target body r → Told api method target body s → r ≡ s
  one_told r s (inl a) (inl b) = a.1 ∙ sym b.1
  one_told r s (inl a) (inr b) = absurd (is_served s b a.0)
  one_told r s (inr a) (inl b) = absurd (is_served r a b.0)
  one_told r s (inr a) (inr b) = one_served r s a b

  -- a request that is bound is told what its body and its message are
  sends : (index : ℕ) (a : Assignments) (r : Answer) → IsBoundRequest api method target index a
      → Sends api body index a r → Told api method target body r
  sends index a r b s =
      inr (inr (inr (record {
        path = b.path;
        index = index;
        spans = b.spans;
        routed = b.readable.routed;
        formed = inr (b.readable.built, record { result = Ok a; bound = b.bound; after = s });
      })))

  -- each answer but out of memory is told in steps
  told : (r : Answer) → r ≢ Err (Listed refusals.NoMemory) → IsTranscoding api method target body r
      → Told api method target body r
  told (Err (Listed refusals.MethodNotServed)) n h = inl (h, refl)
  told (Err (Listed refusals.PathUnknown)) n h = inr (inl (h, refl))
  told (Err (Listed refusals.MethodNotAllowed)) n h = inr (inr (inl (h, refl)))
  told (Err NotBuilt) n h =
      inr (inr (inr (record {
        path = h.path;
        index = h.index;
        spans = h.spans;
        routed = h.routed;
        formed = inl (h.not_built, refl);
      })))
  told (Err (Listed (refusals.PathValue k fault))) n h =
      inr (inr (inr (record {
        path = h.path;
        index = h.index;
        spans = h.spans;
        routed = h.readable.routed;
        formed =
            inr (
              h.readable.built,
              record {
                result = Err (binds.Path k h.value.kind);
                bound = h.value.wrong;
                after = ap (wrong_value k) h.value.fault_is;
              },
            );
      })))
  told (Err (Listed refusals.BodyTooLong)) n h =
      sends h.index h.assignments (Err (Listed refusals.BodyTooLong)) h.bound (inl (h.long, refl))
  told (Err (Listed refusals.MessageTooLong)) n h =
      sends h.message.index h.message.assignments (Err (Listed refusals.MessageTooLong)) h.message.bound
      (inr (
        h.message.short,
        record { path = h.path; bytes = h.bytes; message = h.message.message; sized = inl (h.long, refl) },
      ))
  told (Ok r) n h =
      sends h.message.index h.message.assignments (Ok r) h.message.bound
      (inr (
        h.message.short,
        record {
          path = h.path;
          bytes = h.bytes;
          message = h.message.message;
          sized = inr (h.short, ap Ok h.request_is);
        },
      ))
  told (Err (Listed refusals.NoMemory)) n h = absurd (n refl)
  told (Err (Listed _)) n h = absurd h

  -- a request has one answer, but for out of memory
  pub one_answer : (r s : Answer) → IsTranscoding api method target body r → IsTranscoding api method target body s
      → r ≢ Err (Listed refusals.NoMemory) → s ≢ Err (Listed refusals.NoMemory) → r ≡ s
  one_answer r s h k n m = one_told r s (told r n h) (told s m k)
