-- A transcoded request as the code keeps it.
use Rattle.std.specs.Prelude.{Result, Ok, Err}
use Rattle.transcoding.specs.TranscodedRequest.{TranscodedRequest}
use Rattle.transcoding.specs.declared.refusal.RequestRefusal.{RequestRefusal}
use Rattle.transcoding.specs.declared.transcoded.Transcoded.{Transcoded}

-- what it refers to
abbrev pub transcoded_view : Transcoded → TranscodedRequest
transcoded_view t = record { path = t.path.now; messages = t.messages }

-- an answer with what it refers to
abbrev pub answer_view : Result Transcoded RequestRefusal → Result TranscodedRequest RequestRefusal
answer_view (Ok t) = Ok (transcoded_view t)
answer_view (Err e) = Err e
