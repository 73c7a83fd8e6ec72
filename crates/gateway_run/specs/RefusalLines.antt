-- The line on standard error that tells why a request is refused.
use Rattle.std.specs.Prelude.{◌++◌, ℕ, List, codes, decimal}
use Rattle.transcoding.specs.RequestRefusals.{refusal_status, text_of}
use Rattle.transcoding.specs.declared.refusal.RequestRefusal.{RequestRefusal}

-- the line of a refusal: its HTTP status in decimal, and its text
abbrev pub refusal_line : RequestRefusal → List ℕ
refusal_line r = codes "refused " ++ (decimal (refusal_status r) ++ (codes " " ++ (text_of r ++ codes "\n")))
