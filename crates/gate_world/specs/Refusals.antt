-- Why a request is refused: the HTTP status (RFC 9110, section 15), the gRPC code (google/rpc/code.proto) and
-- the text of each cause, in the order in which the causes are tried.
use Rattle.std.specs.Prelude.{◌++◌, ℕ, List, codes, decimal, Option, Some, None, []}
use Rattle.std.specs.Option.{option_map_or}
use Rattle.gate_world.specs.declared.refusal.Detail.{Detail}
use Rattle.gate_world.specs.declared.refusal.Refusal.{Refusal}
use Rattle.gate_world.specs.declared.refusal.Refusal.TheVariants as refusals
use Rattle.gate_world.specs.declared.value_fault.ValueFault.{ValueFault}
use Rattle.gate_world.specs.declared.value_fault.ValueFault.TheVariants as faults

-- one cause: its rank in the order in which the causes are tried, its HTTP status, its gRPC code, and its text,
-- or what of the text stands in front of the value that it names; the cause that is free has no rank
pub record RefusalRow : Type 0 where
  pub rank : Option ℕ
  pub http_status : ℕ
  pub grpc_code : ℕ
  pub cause : List ℕ

-- a row of the table
abbrev pub row : ℕ → ℕ → ℕ → List ℕ → RefusalRow
row rank status code cause = record { rank = Some rank; http_status = status; grpc_code = code; cause = cause }

-- the table, in the order in which the causes are tried, and the free one
abbrev pub row_of : Refusal → RefusalRow
row_of refusals.HeadNotReadable = row 1 400 3 (codes "head not readable")
row_of refusals.HeadTooLong = row 2 431 8 (codes "head too long")
row_of refusals.VersionNotServed = row 3 505 12 (codes "version not served")
row_of refusals.MethodNotServed = row 4 501 12 (codes "method not served")
row_of refusals.HostField = row 5 400 3 (codes "host field")
row_of refusals.BodyLengthFields = row 6 400 3 (codes "body length fields")
row_of refusals.PathUnknown = row 7 404 5 (codes "path unknown")
row_of refusals.MethodNotAllowed = row 8 405 12 (codes "method not allowed")
row_of refusals.ContentType = row 9 415 3 (codes "content type")
row_of refusals.GrpcTimeout = row 10 400 3 (codes "grpc-timeout")
row_of (refusals.PathValue n fault) = row 11 400 3 (codes "path variable ")
row_of (refusals.QueryParameter n fault) = row 12 400 3 (codes "query parameter ")
row_of refusals.UpstreamNotUsable = row 13 503 14 (codes "upstream not usable")
row_of refusals.BodyFraming = row 14 400 3 (codes "body framing")
row_of refusals.BodyTooLong = row 15 413 8 (codes "body too long")
row_of (refusals.BodyAt offset fault) = row 16 400 3 (codes "body at ")
row_of refusals.MessageTooLong = row 17 429 8 (codes "message too long")
row_of refusals.NoMemory = record { rank = None; http_status = 507; grpc_code = 8; cause = codes "out of memory" }

-- the text of what is wrong with a value
abbrev pub value_fault_text : ValueFault → List ℕ
value_fault_text faults.Syntax = codes "syntax"
value_fault_text faults.UnknownKey = codes "unknown key"
value_fault_text faults.KeyTwice = codes "key twice"
value_fault_text faults.OneofTwice = codes "oneof twice"
value_fault_text faults.WrongShape = codes "wrong shape"
value_fault_text faults.BadNumber = codes "bad number"
value_fault_text faults.OutOfRange = codes "out of range"
value_fault_text faults.BadEnum = codes "bad enum"
value_fault_text faults.BadText = codes "bad text"
value_fault_text faults.NullInside = codes "null inside"
value_fault_text faults.TooDeep = codes "too deep"
value_fault_text faults.Unknown = codes "unknown"
value_fault_text faults.NotALeaf = codes "not a leaf"
value_fault_text faults.Taken = codes "taken"
value_fault_text faults.Twice = codes "twice"
value_fault_text faults.NotUtf8 = codes "not UTF-8"

-- which value a refusal names, and what is wrong with it
abbrev pub detail_of : Refusal → Option Detail
detail_of (refusals.PathValue n fault) = Some (record { at = n; fault = fault })
detail_of (refusals.QueryParameter n fault) = Some (record { at = n; fault = fault })
detail_of (refusals.BodyAt offset fault) = Some (record { at = offset; fault = fault })
detail_of _ = None

-- the value by its number or its offset in decimal, and what is wrong with it
abbrev pub detail_text : Detail → List ℕ
detail_text d = decimal d.at ++ (codes ": " ++ value_fault_text d.fault)

-- the text of a refusal: its cause, and the value that it names
abbrev pub refusal_text : Refusal → List ℕ
refusal_text r = (row_of r).cause ++ option_map_or detail_text (detail_of r) []
