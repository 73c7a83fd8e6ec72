-- The first cause counts (`first_cause_counts`).
use Rattle.std.proofs.Common.{◌≡◌, ◌<◌, ℕ, List, length, Err}
use Rattle.field_binding.specs.Assignments.{Assignments}
use Rattle.gate_world.specs.declared.refusal.Refusal.TheVariants as refusals
use Rattle.gate_world.specs.declared.value_fault.ValueFault.{ValueFault}
use Rattle.linked_api.specs.LinkedApi.{IsLinked}
use Rattle.linked_api.specs.declared.api.Api.{Api}
use Rattle.path_router.specs.RouteChoice.{IsWrongMethod}
use Rattle.path_router.specs.TargetPath.{IsTargetPath}
use Rattle.path_router.specs.declared.captures.Span.{Span}
use Rattle.transcoding.proofs.AnswerLemmas.{OneBinding, OneChoice, OneMessage, OnePath, one_answer}
use Rattle.transcoding.proofs.CallLemmas.{parsed}
use Rattle.transcoding.proofs.EachAnswer.{refusal_told}
use Rattle.transcoding.specs.CauseOrder.{MeansOnly}
use Rattle.transcoding.specs.RoutedRequest.{IsMethodNotServed, IsPathUnknown}
use Rattle.transcoding.specs.TranscodedRequest.{HasMessage, IsBoundRequest, IsNotBuilt, IsReadable, IsTranscoding, IsWrongValue}
use Rattle.transcoding.specs.declared.refusal.RequestRefusal.{RequestRefusal}
use Rattle.transcoding.specs.declared.refusal.RequestRefusal.TheVariants.{NotBuilt, Listed}

module _ (one_path : OnePath) (one_choice : OneChoice) (one_binding : OneBinding) (one_message : OneMessage) (api : Api)
    (method target body : List ℕ) (linked : IsLinked api) where
  -- a refusal that comes is the only one
  refused : (r : RequestRefusal) → (r ≡ Listed refusals.NoMemory → ⊥) → IsTranscoding api method target body (Err r)
      → MeansOnly api method target body (Err r)
  refused r n h = record {
    means = h;
    only = λ s k m.
        one_answer one_path one_choice one_binding one_message api method target body (parsed api linked) s (Err r) k h
        m (refusal_told r n);
  }

  pub by_method : IsMethodNotServed method → MeansOnly api method target body (Err (Listed refusals.MethodNotServed))
  by_method h = refused (Listed refusals.MethodNotServed) (λ e. absurd (cc e)) h

  pub by_wrong_method : (path : List ℕ) (bits : ℕ) → (IsMethodNotServed method → ⊥) → IsTargetPath target path
      → IsWrongMethod api.bindings method path bits
      → MeansOnly api method target body (Err (Listed refusals.MethodNotAllowed))
  by_wrong_method path bits served t w =
      refused (Listed refusals.MethodNotAllowed) (λ e. absurd (cc e))
      (record { served = served; path = path; target_path = t; bits = bits; wrong = w })

  pub by_path : IsPathUnknown api method target → MeansOnly api method target body (Err (Listed refusals.PathUnknown))
  by_path h = refused (Listed refusals.PathUnknown) (λ e. absurd (cc e)) h

  pub by_form : IsNotBuilt api method target → MeansOnly api method target body (Err NotBuilt)
  by_form h = refused NotBuilt (λ e. absurd (cc e)) h

  pub by_value : (path : List ℕ) (index : ℕ) (spans : List Span) (n : ℕ) (fault : ValueFault)
      → IsReadable api method target path index spans → IsWrongValue api index path spans n fault
      → MeansOnly api method target body (Err (Listed (refusals.PathValue n fault)))
  by_value path index spans n fault h w =
      refused (Listed (refusals.PathValue n fault)) (λ e. absurd (cc e))
      (record { path = path; index = index; spans = spans; readable = h; value = w })

  pub by_body : (index : ℕ) (a : Assignments) → IsBoundRequest api method target index a → 1048576 < length body
      → MeansOnly api method target body (Err (Listed refusals.BodyTooLong))
  by_body index a b long =
      refused (Listed refusals.BodyTooLong) (λ e. absurd (cc e))
      (record { index = index; assignments = a; bound = b; long = long })

  pub by_message : (path bytes : List ℕ) → HasMessage api method target body path bytes → 1048576 < length bytes
      → MeansOnly api method target body (Err (Listed refusals.MessageTooLong))
  by_message path bytes h long =
      refused (Listed refusals.MessageTooLong) (λ e. absurd (cc e))
      (record { path = path; bytes = bytes; message = h; long = long })
