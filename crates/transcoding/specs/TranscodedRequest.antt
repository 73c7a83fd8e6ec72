-- Which gRPC request an HTTP request means, or why it is refused (google/api/http.proto; gRPC's PROTOCOL-HTTP2,
-- requests). The causes are tried in the order in which the cases of `IsTranscoding` stand.
use Rattle.std.specs.Prelude.{◌≡◌, ◌≤◌, ◌<◌, ℕ, List, [], ◌∷◌, length, Result, Ok, Err}
use Rattle.field_binding.specs.Assignments.{Assignments}
use Rattle.field_binding.specs.PathSettings.{IsCall, IsPathBinding}
use Rattle.field_binding.specs.RequestMessages.{IsRequestMessage}
use Rattle.field_binding.specs.declared.fault.BindFault.TheVariants.{Path}
use Rattle.field_binding.specs.declared.fault.ValueKind.{ValueKind}
use Rattle.field_binding.specs.declared.fault.ValueKind.TheVariants as kinds
use Rattle.gate_world.specs.declared.refusal.Refusal.TheVariants as refusals
use Rattle.gate_world.specs.declared.value_fault.ValueFault.{ValueFault}
use Rattle.gate_world.specs.declared.value_fault.ValueFault.TheVariants as faults
use Rattle.http_rules.specs.declared.template.Binding.{Binding}
use Rattle.linked_api.specs.declared.api.Api.{Api}
use Rattle.linked_api.specs.declared.api.MethodInfo.{MethodInfo}
use Rattle.path_router.specs.declared.captures.Span.{Span}
use Rattle.schema.specs.declared.value.Value.{Value}
use Rattle.transcoding.specs.BuiltForms.{IsBuilt}
use Rattle.transcoding.specs.RoutedRequest.{IsMethodNotAllowed, IsMethodNotServed, IsPathUnknown, IsRouted}
use Rattle.transcoding.specs.declared.refusal.RequestRefusal.{RequestRefusal}
use Rattle.transcoding.specs.declared.refusal.RequestRefusal.TheVariants.{NotBuilt, Listed}
use Rattle.wire_format.specs.CanonicalBytes.{canonical_bytes}

-- a gRPC request: the path of its method, and its messages in order
pub record TranscodedRequest : Type 0 where
  pub path : List ℕ
  pub messages : List (List ℕ)

-- a request is routed, and is of a form that is not built
pub record IsNotBuilt (api : Api) (method target : List ℕ) : Type 0 where
  pub path : List ℕ
  pub index : ℕ
  pub spans : List Span
  pub routed : IsRouted api method target path index spans
  pub not_built : IsBuilt api target index → ⊥

-- a request is readable: it is routed, and is of a form that is built
pub record IsReadable (api : Api) (method target path : List ℕ) (index : ℕ) (spans : List Span) : Type 0 where
  pub routed : IsRouted api method target path index spans
  pub built : IsBuilt api target index

-- what is wrong with the value of a variable, as it is told
abbrev pub value_fault_of : ValueKind → ValueFault
value_fault_of kinds.BadText = faults.BadText
value_fault_of kinds.BadNumber = faults.BadNumber
value_fault_of kinds.OutOfRange = faults.OutOfRange
value_fault_of kinds.BadEnum = faults.BadEnum
value_fault_of kinds.NotUtf8 = faults.NotUtf8
value_fault_of kinds.TooDeep = faults.TooDeep

-- the variable of this number, counted from 1, is the first of a path whose value is wrong, and this is wrong with it
pub record IsWrongValue (api : Api) (index : ℕ) (path : List ℕ) (spans : List Span) (n : ℕ) (fault : ValueFault)
    : Type 0 where
  pub kind : ValueKind
  pub wrong : IsPathBinding api index path spans (Err (Path n kind))
  pub fault_is : fault ≡ value_fault_of kind

-- a request is readable, and a variable has a wrong value
pub record HasWrongValue (api : Api) (method target : List ℕ) (n : ℕ) (fault : ValueFault) : Type 0 where
  pub path : List ℕ
  pub index : ℕ
  pub spans : List Span
  pub readable : IsReadable api method target path index spans
  pub value : IsWrongValue api index path spans n fault

-- a request is bound: it is readable, and the values of its path make these assignments for the binding of this index
pub record IsBoundRequest (api : Api) (method target : List ℕ) (index : ℕ) (a : Assignments) : Type 0 where
  pub path : List ℕ
  pub spans : List Span
  pub readable : IsReadable api method target path index spans
  pub bound : IsPathBinding api index path spans (Ok a)

-- a request is bound, and its body has over 1,048,576 bytes
pub record IsBodyTooLong (api : Api) (method target body : List ℕ) : Type 0 where
  pub index : ℕ
  pub assignments : Assignments
  pub bound : IsBoundRequest api method target index assignments
  pub long : 1048576 < length body

-- the binding of this index calls a method of this path, and these are the canonical bytes of the message that these
-- assignments make
pub record IsMessageOf (api : Api) (index : ℕ) (a : Assignments) (path bytes : List ℕ) : Type 0 where
  pub binding : Binding
  pub method : MethodInfo
  pub call : IsCall api index binding method
  pub path_is : path ≡ method.path
  pub message : Value
  pub message_is : IsRequestMessage api index a message
  pub bytes_are : bytes ≡ canonical_bytes api.types method.input message

-- a request is bound, its body is within its limit, and this is its gRPC path and the bytes of its message
pub record HasMessage (api : Api) (method target body path bytes : List ℕ) : Type 0 where
  pub index : ℕ
  pub assignments : Assignments
  pub bound : IsBoundRequest api method target index assignments
  pub short : length body ≤ 1048576
  pub message : IsMessageOf api index assignments path bytes

-- the message of a request has over 1,048,576 bytes
pub record IsMessageTooLong (api : Api) (method target body : List ℕ) : Type 0 where
  pub path : List ℕ
  pub bytes : List ℕ
  pub message : HasMessage api method target body path bytes
  pub long : 1048576 < length bytes

-- a request is transcoded: it has one message, within the limit
pub record IsTranscoded (api : Api) (method target body : List ℕ) (r : TranscodedRequest) : Type 0 where
  pub path : List ℕ
  pub bytes : List ℕ
  pub message : HasMessage api method target body path bytes
  pub short : length bytes ≤ 1048576
  pub request_is : r ≡ record { path = path; messages = bytes ∷ [] }

-- which gRPC request a request means, or why it is refused; out of memory is free
abbrev pub IsTranscoding : Api → List ℕ → List ℕ → List ℕ → Result TranscodedRequest RequestRefusal → Type 0
IsTranscoding api method target body (Err (Listed refusals.MethodNotServed)) = IsMethodNotServed method
IsTranscoding api method target body (Err (Listed refusals.PathUnknown)) = IsPathUnknown api method target
IsTranscoding api method target body (Err (Listed refusals.MethodNotAllowed)) = IsMethodNotAllowed api method target
IsTranscoding api method target body (Err NotBuilt) = IsNotBuilt api method target
IsTranscoding api method target body (Err (Listed (refusals.PathValue n fault))) =
    HasWrongValue api method target n fault
IsTranscoding api method target body (Err (Listed refusals.BodyTooLong)) = IsBodyTooLong api method target body
IsTranscoding api method target body (Err (Listed refusals.MessageTooLong)) = IsMessageTooLong api method target body
IsTranscoding api method target body (Ok r) = IsTranscoded api method target body r
IsTranscoding api method target body (Err (Listed refusals.NoMemory)) = Unit {0}
IsTranscoding api method target body (Err (Listed _)) = ⊥
