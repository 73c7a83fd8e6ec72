-- What a request means where several causes meet: the first one counts, whatever comes behind it.
use Rattle.std.specs.Prelude.{◌≡◌, ◌≢◌, List, ℕ, Result, Err}
use Rattle.gate_world.specs.declared.refusal.Refusal.TheVariants.{NoMemory}
use Rattle.linked_api.specs.declared.api.Api.{Api}
use Rattle.transcoding.specs.TranscodedRequest.{IsTranscoding, TranscodedRequest}
use Rattle.transcoding.specs.declared.refusal.RequestRefusal.{RequestRefusal}
use Rattle.transcoding.specs.declared.refusal.RequestRefusal.TheVariants.{Listed}

-- a request means this, and nothing else but for out of memory
pub record MeansOnly (api : Api) (method target body : List ℕ) (r : Result TranscodedRequest RequestRefusal) : Type 0
  where
    pub means : IsTranscoding api method target body r
    pub only : (s : Result TranscodedRequest RequestRefusal) → IsTranscoding api method target body s
        → s ≢ Err (Listed NoMemory) → s ≡ r
