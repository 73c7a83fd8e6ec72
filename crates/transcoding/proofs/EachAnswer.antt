-- Each request has an answer that is not out of memory (`each_request_is_answered`).
use Rattle.std.proofs.Common.{◌≡◌, ◌≢◌, ◌<◌, ◌≤◌, ◌⊎◌, ◌^◌, inl, inr, ℕ, List, [], ◌∷◌, length, slice_get, Some, Result, Ok, Err, Bool, true, false, codes, refl, sym, subst, arith}
use Rattle.std.proofs.lemmas.Bool.{cases_lt}
use Rattle.std.proofs.lemmas.Slice.Eq.{bytes_eq-Decides}
use Rattle.std.specs.List.{AllByRecursion}
use Rattle.std.specs.Str.{bytes_eq}
use Rattle.field_binding.specs.Assignments.{Assignments}
use Rattle.field_binding.specs.PathSettings.{AreCapturesOf, BindsScalars, IsCall, IsPathBinding}
use Rattle.field_binding.specs.RequestMessages.{IsInput, IsOverlayOf, IsRequestMessage}
use Rattle.field_binding.specs.declared.fault.BindFault.{BindFault}
use Rattle.field_binding.specs.declared.fault.BindFault.TheVariants as binds
use Rattle.gate_world.specs.declared.refusal.Refusal.TheVariants as refusals
use Rattle.http_rules.specs.declared.template.Binding.{Binding}
use Rattle.linked_api.specs.LinkedApi.{IsLinked}
use Rattle.linked_api.specs.NumberPaths.{IsServable}
use Rattle.linked_api.specs.declared.api.Api.{Api}
use Rattle.path_router.specs.RoutableBindings.{AreRoutable}
use Rattle.path_router.specs.RouteChoice.{IsChoice, IsFound, IsNotFound}
use Rattle.path_router.specs.TargetPath.{IsTargetPath}
use Rattle.path_router.specs.declared.captures.Span.{Span}
use Rattle.path_router.specs.declared.routed.Routed.{Routed}
use Rattle.path_router.specs.declared.routed.Routed.TheVariants.{Found, WrongMethod, NotFound}
use Rattle.schema.specs.declared.value.Value.{Value}
use Rattle.transcoding.proofs.AnswerLemmas.{Answer, OnePath}
use Rattle.transcoding.proofs.CallLemmas.{ready_of}
use Rattle.transcoding.proofs.DecidedForms.{built_decided}
use Rattle.transcoding.specs.BuiltForms.{IsBuilt}
use Rattle.transcoding.specs.RoutedRequest.{IsMethodNotServed, IsRouted}
use Rattle.transcoding.specs.TranscodedRequest.{HasMessage, IsBoundRequest, IsReadable, IsTranscoding, TranscodedRequest, value_fault_of}
use Rattle.transcoding.specs.declared.refusal.RequestRefusal.{RequestRefusal}
use Rattle.transcoding.specs.declared.refusal.RequestRefusal.TheVariants.{NotBuilt, Listed}
use Rattle.wire_format.specs.CanonicalBytes.{canonical_bytes}

-- ---- the laws of the crates below

-- a target has a path or none
abbrev pub EachTarget : Type 0
EachTarget =
    (target : List ℕ)
    → ((path : List ℕ) × IsTargetPath target path) ⊎ ((path : List ℕ) → IsTargetPath target path → ⊥)

-- each request has a choice
abbrev pub EachChoice : Type 0
EachChoice =
    (bindings : List Binding) (method path : List ℕ) → AreRoutable bindings
    → (r : Routed) × IsChoice bindings method path r

-- what is found lies inside the path
abbrev pub SpansInside : Type 0
SpansInside =
    (bindings : List Binding) (method path : List ℕ) (index : ℕ) (spans : List Span)
    → (found : IsFound bindings method path index spans)
    → (length spans ≡ length found.binding.template.variables)
    × AllByRecursion (λ (s : Span). (s.from ≤ s.to) × (s.to ≤ length path)) spans

-- each path is bound or refused
abbrev pub EachBinding : Type 0
EachBinding =
    (api : Api) (index : ℕ) (path : List ℕ) (spans : List Span) → IsLinked api → AreCapturesOf api index path spans
    → BindsScalars api index
    → (r : Result Assignments BindFault) × IsPathBinding api index path spans r × (r ≢ Err binds.NoMemory)

-- what a path binds fits the input
abbrev pub EachFits : Type 0
EachFits =
    (api : Api) (index : ℕ) (path : List ℕ) (spans : List Span) (a : Assignments) → IsLinked api
    → IsPathBinding api index path spans (Ok a) → IsOverlayOf api index a

-- what fits has a message
abbrev pub EachMessage : Type 0
EachMessage =
    (api : Api) (index : ℕ) (a : Assignments) → IsLinked api → IsOverlayOf api index a
    → (v : Value) × IsRequestMessage api index a v × IsInput api index v

-- each binding of a linked API can be served
abbrev pub EachServed : Type 0
EachServed = (api : Api) (i : ℕ) (b : Binding) → IsLinked api → slice_get api.bindings i ≡ Some b → IsServable api b

-- ---- methods

is_method : (method name : List ℕ) → Dec (method ≡ name)
is_method method name = pick (bytes_eq method name) refl
  where
    pick : (t : Bool) → t ≡ bytes_eq method name → Dec (method ≡ name)
    pick true e = yes ((bytes_eq-Decides method name).0 (sym e))
    pick false e =
        no (λ s. let t : bytes_eq method name ≡ true = (bytes_eq-Decides method name).1 s in absurd (cc (t, e)))

not_served : (method : List ℕ) → Dec (IsMethodNotServed method)
not_served method =
    elim (is_method method (codes "HEAD")) [
      | yes e ↦ yes (inl e)
      | no n ↦ elim (is_method method (codes "CONNECT")) [
        | yes e ↦ yes (inr e)
        | no m ↦ no (λ h. elim h [ inl e ↦ n e | inr e ↦ m e ])
      ]
    ]

-- ---- an answer step by step

-- an answer that is not out of memory
abbrev pub IsAnswered : Api → List ℕ → List ℕ → List ℕ → Type 0
IsAnswered api method target body =
    (r : Answer) × IsTranscoding api method target body r × (r ≢ Err (Listed refusals.NoMemory))

-- a refusal for another cause is not out of memory
pub refusal_told : (r : RequestRefusal) → (r ≡ Listed refusals.NoMemory → ⊥)
    → ◌≡◌ {A = Answer} (Err r) (Err (Listed refusals.NoMemory)) → ⊥
refusal_told r n e = n (cc e)

request_told : (r : TranscodedRequest) → ◌≡◌ {A = Answer} (Ok r) (Err (Listed refusals.NoMemory)) → ⊥
request_told r e = cc e

module _ (each_target : EachTarget) (one_path : OnePath) (each_choice : EachChoice) (inside : SpansInside)
    (each_binding : EachBinding) (each_fits : EachFits) (each_message : EachMessage) (each_served : EachServed)
    (api : Api) (linked : IsLinked api) (routable : AreRoutable api.bindings) (method target body : List ℕ) where
  -- of a message
  sized : (path bytes : List ℕ) → HasMessage api method target body path bytes → IsAnswered api method target body
  sized path bytes m =
      elim (cases_lt 1048576 (length bytes)) [
        | inl long ↦ (
          Err (Listed refusals.MessageTooLong),
          record { path = path; bytes = bytes; message = m; long = long },
          refusal_told (Listed refusals.MessageTooLong) (λ e. absurd (cc e)),
        )
        | inr short ↦ (
          Ok (record { path = path; messages = bytes ∷ [] }),
          record { path = path; bytes = bytes; message = m; short = short; request_is = refl },
          request_told (record { path = path; messages = bytes ∷ [] }),
        )
      ]

  -- of a request that is bound
  sent : (index : ℕ) (a : Assignments) → IsBoundRequest api method target index a → IsOverlayOf api index a
      → IsAnswered api method target body
  sent index a b o =
      elim (cases_lt 1048576 (length body)) [
        | inl long ↦ (
          Err (Listed refusals.BodyTooLong),
          record { index = index; assignments = a; bound = b; long = long },
          refusal_told (Listed refusals.BodyTooLong) (λ e. absurd (cc e)),
        )
        | inr short ↦
            let v = each_message api index a linked o in
            let m = o.method in
            sized m.path (canonical_bytes api.types m.input v.0)
            (record {
              index = index;
              assignments = a;
              bound = b;
              short = short;
              message =
                  record {
                    binding = o.binding;
                    method = m;
                    call = o.call;
                    path_is = refl;
                    message = v.0;
                    message_is = v.1;
                    bytes_are = refl;
                  };
            })
      ]

  -- of a request that can be read
  read : (path : List ℕ) (index : ℕ) (spans : List Span) → IsReadable api method target path index spans
      → (r : Result Assignments BindFault) → IsPathBinding api index path spans r → r ≢ Err binds.NoMemory
      → IsAnswered api method target body
  read path index spans h (Ok a) b n =
      sent index a (record { path = path; spans = spans; readable = h; bound = b })
      (each_fits api index path spans a linked b)
  read path index spans h (Err (binds.Path k kind)) b n = (
    Err (Listed (refusals.PathValue k (value_fault_of kind))),
    record {
      path = path;
      index = index;
      spans = spans;
      readable = h;
      value = record { kind = kind; wrong = b; fault_is = refl };
    },
    refusal_told (Listed (refusals.PathValue k (value_fault_of kind))) (λ e. absurd (cc e)),
  )
  read path index spans h (Err binds.NoMemory) b n = absurd (n refl)

  -- of a request that is routed
  formed : (path : List ℕ) (index : ℕ) (spans : List Span) → IsRouted api method target path index spans
      → Dec (IsBuilt api target index) → IsAnswered api method target body
  formed path index spans r (no n) = (
    Err NotBuilt,
    record { path = path; index = index; spans = spans; routed = r; not_built = n },
    refusal_told NotBuilt (λ e. absurd (cc e)),
  )
  formed path index spans r (yes b) =
      let ready =
      ready_of api method target path index spans (inside api.bindings method path index spans) r.found b in
      let bound = each_binding api index path spans linked ready.captures ready.scalars in
      read path index spans (record { routed = r; built = b }) bound.0 bound.1 bound.2

  -- of a request that has a path
  chosen : (IsMethodNotServed method → ⊥) → (path : List ℕ) → IsTargetPath target path → (r : Routed)
      → IsChoice api.bindings method path r → IsAnswered api method target body
  chosen served path t (Found index spans) c =
      let b = c.binding in
      let s = each_served api index b linked c.first.binding_is in
      let call : IsCall api index b s.method = record { binding_is = c.first.binding_is; method_is = s.method_is } in
      formed path index spans (record { served = served; target_path = t; found = c })
      (built_decided api index b s.method call target)
  chosen served path t (WrongMethod bits) c = (
    Err (Listed refusals.MethodNotAllowed),
    record { served = served; path = path; target_path = t; bits = bits; wrong = c },
    refusal_told (Listed refusals.MethodNotAllowed) (λ e. absurd (cc e)),
  )
  chosen served path t NotFound c = (
    Err (Listed refusals.PathUnknown),
    record {
      served = served;
      unknown = λ p h. subst (IsNotFound api.bindings) (one_path target path p t h) c;
    },
    refusal_told (Listed refusals.PathUnknown) (λ e. absurd (cc e)),
  )

  pub each_answer : IsAnswered api method target body
  each_answer =
      elim (not_served method) [
        | yes h ↦ (
          Err (Listed refusals.MethodNotServed),
          h,
          refusal_told (Listed refusals.MethodNotServed) (λ e. absurd (cc e)),
        )
        | no served ↦ elim (each_target target) [
          | inl t ↦ let c = each_choice api.bindings method t.0 routable in chosen served t.0 t.1 c.0 c.1
          | inr none ↦ (
            Err (Listed refusals.PathUnknown),
            record { served = served; unknown = λ path p. absurd (none path p) },
            refusal_told (Listed refusals.PathUnknown) (λ e. absurd (cc e)),
          )
        ]
      ]
