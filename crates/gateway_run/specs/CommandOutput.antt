-- What a command prints of a descriptor set and an input, or why its request is refused.
use Rattle.std.specs.Prelude.{◌≡◌, ◌++◌, ℕ, List, codes, take, Ok, Err}
use Rattle.std.specs.List.{flat_map}
use Rattle.gate_world.specs.declared.refusal.Refusal.TheVariants.{NoMemory}
use Rattle.gateway_run.specs.Commands.{BindWords, Command, bind, check, routes}
use Rattle.gateway_run.specs.DeclaredApi.{Declares}
use Rattle.grpc_frames.specs.LengthPrefixed.{length_prefixed}
use Rattle.hex.specs.Hex.{encode_lower}
use Rattle.linked_api.specs.declared.api.Api.{Api}
use Rattle.set_listing.specs.RouteLines.{IsRoutesText, check_text}
use Rattle.transcoding.specs.TranscodedRequest.{IsTranscoding, TranscodedRequest}
use Rattle.transcoding.specs.declared.refusal.RequestRefusal.{RequestRefusal}
use Rattle.transcoding.specs.declared.refusal.RequestRefusal.TheVariants.{Listed}

-- the body that an input holds: all of it, or its first 1,048,577 bytes, which are one more than a body may have
abbrev pub body_in : List ℕ → List ℕ
body_in input = take 1048577 input

-- the line of a message: the length-prefixed message in lower-case hexadecimal
abbrev pub message_line : List ℕ → List ℕ
message_line message = codes "frame " ++ (encode_lower (length_prefixed message) ++ codes "\n")

-- what `bind` prints: the gRPC path, and a line for each message
abbrev pub output : TranscodedRequest → List ℕ
output r = codes "path " ++ (r.path ++ (codes "\n" ++ flat_map message_line r.messages))

-- what `bind` prints of an API: the path and the messages that the request means
pub record IsBindOutput (api : Api) (words : BindWords) (body out : List ℕ) : Type 0 where
  pub request : TranscodedRequest
  pub means : IsTranscoding api words.method words.target body (Ok request)
  pub printed : out ≡ output request

-- why `bind` refuses the request; want of memory refuses none
pub record IsBindRefusal (api : Api) (words : BindWords) (body : List ℕ) (r : RequestRefusal) : Type 0 where
  pub means : IsTranscoding api words.method words.target body (Err r)
  pub told : r ≡ Listed NoMemory → ⊥

-- what a command prints of an API and an input, which `check` and `routes` do not read
abbrev pub Prints : Api → Command → List ℕ → List ℕ → Type 0
Prints api (bind words) input out = IsBindOutput api words (body_in input) out
Prints api (check set) input out = out ≡ check_text api
Prints api (routes set) input out = IsRoutesText api out

-- why a command's request is refused by an API; `check` and `routes` have none
abbrev pub Refuses : Api → Command → List ℕ → RequestRefusal → Type 0
Refuses api (bind words) input r = IsBindRefusal api words (body_in input) r
Refuses api (check set) input r = ⊥
Refuses api (routes set) input r = ⊥

-- what a command prints over a set's file and an input
pub record IsOutput (file input : List ℕ) (c : Command) (out : List ℕ) : Type 0 where
  pub api : Api
  pub declares : Declares file api
  pub prints : Prints api c input out

-- its request is refused
pub record IsRefusedBy (file input : List ℕ) (c : Command) (r : RequestRefusal) : Type 0 where
  pub api : Api
  pub declares : Declares file api
  pub refuses : Refuses api c input r
