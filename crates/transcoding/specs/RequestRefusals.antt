-- What is told of a request that is refused: its HTTP status (RFC 9110, section 15) and its text.
use Rattle.std.specs.Prelude.{◌++◌, ℕ, List, [], codes, Option, None}
use Rattle.std.specs.Option.{option_map_or}
use Rattle.gate_world.specs.Refusals.{detail_of, detail_text, row_of}
use Rattle.gate_world.specs.declared.refusal.Detail.{Detail}
use Rattle.transcoding.specs.declared.refusal.RequestRefusal.{RequestRefusal}
use Rattle.transcoding.specs.declared.refusal.RequestRefusal.TheVariants.{NotBuilt, Listed}

-- the HTTP status: that of the table, and 501 for a form that is not built yet
abbrev pub refusal_status : RequestRefusal → ℕ
refusal_status NotBuilt = 501
refusal_status (Listed r) = (row_of r).http_status

-- the text of the cause
abbrev pub cause_of : RequestRefusal → List ℕ
cause_of NotBuilt = codes "not built"
cause_of (Listed r) = (row_of r).cause

-- the value that is named behind it
abbrev pub refusal_detail : RequestRefusal → Option Detail
refusal_detail NotBuilt = None
refusal_detail (Listed r) = detail_of r

-- the text of a refusal, which for one of the table is `refusal_text`
abbrev pub text_of : RequestRefusal → List ℕ
text_of r = cause_of r ++ option_map_or detail_text (refusal_detail r) []
