-- Each command has an output or a refusal (`each_command_is_answered`).
use Rattle.std.proofs.Common.{◌≡◌, ◌≢◌, ◌⊎◌, inl, inr, ℕ, List, [], Result, Ok, Err, refl, ap}
use Rattle.descriptor_set.specs.SetReading.{set_reading}
use Rattle.descriptors.specs.declared.file_set.FileSet.{FileSet}
use Rattle.gate_world.specs.declared.refusal.Refusal.TheVariants as table
use Rattle.gateway_run.specs.CommandOutput.{IsOutput, IsRefusedBy, Prints, Refuses, body_in, output}
use Rattle.gateway_run.specs.Commands.{BindWords, Command, bind, check, routes}
use Rattle.gateway_run.specs.DeclaredApi.{Declares}
use Rattle.gateway_run.proofs.AnswerLemmas.{AreLinked}
use Rattle.linked_api.specs.LinkedApi.{IsLinked}
use Rattle.linked_api.specs.declared.api.Api.{Api}
use Rattle.schema_link.specs.LinkAnswers.{faults}
use Rattle.schema_link.specs.SetApi.{IsSetApi}
use Rattle.set_listing.specs.RouteLines.{IsRoutesText, check_text}
use Rattle.transcoding.specs.TranscodedRequest.{IsTranscoding, TranscodedRequest}
use Rattle.transcoding.specs.declared.refusal.RequestRefusal.{RequestRefusal}
use Rattle.transcoding.specs.declared.refusal.RequestRefusal.TheVariants as refusals

-- a law: each request means a gRPC request, or is refused for a cause other than out of memory
abbrev pub EachMeaning : Type 0
EachMeaning =
    (api : Api) (method target body : List ℕ) → IsLinked api
    → (r : Result TranscodedRequest RequestRefusal) × IsTranscoding api method target body r
    × (r ≢ Err (refusals.Listed table.NoMemory))

-- a law: each linked API has a text of its routes
abbrev pub EachText : Type 0
EachText = (api : Api) → IsLinked api → (text : List ℕ) × IsRoutesText api text

-- a law: a set without faults has an API
abbrev pub EachApi : Type 0
EachApi = (set : FileSet) → faults set ≡ [] → (api : Api) × IsSetApi set api

-- what a command prints of an API, or why its request is refused
abbrev PrintsOrRefuses : Api → Command → List ℕ → Type 0
PrintsOrRefuses api c input =
    ((out : List ℕ) × Prints api c input out) ⊎ ((r : RequestRefusal) × Refuses api c input r)

of_request : (api : Api) (words : BindWords) (input : List ℕ) (r : Result TranscodedRequest RequestRefusal)
    → IsTranscoding api words.method words.target (body_in input) r → r ≢ Err (refusals.Listed table.NoMemory)
    → PrintsOrRefuses api (bind words) input
of_request api words input (Ok q) h n = inl (output q, record { request = q; means = h; printed = refl })
of_request api words input (Err e) h n = inr (e, record { means = h; told = λ i. n (ap Err i) })

of_api : EachMeaning → EachText → (api : Api) → IsLinked api → (c : Command) (input : List ℕ)
    → PrintsOrRefuses api c input
of_api means text api l (bind words) input =
    let r = means api words.method words.target (body_in input) l in of_request api words input r.0 r.1 r.2
of_api means text api l (check set) input = inl (check_text api, refl)
of_api means text api l (routes set) input = inl (text api l)

-- each command over a set that declares an API has an output, or is refused
pub each_command : AreLinked → EachMeaning → EachText → (file input : List ℕ) (c : Command) (api : Api)
    → Declares file api
    → ((out : List ℕ) × IsOutput file input c out) ⊎ ((r : RequestRefusal) × IsRefusedBy file input c r)
each_command linked means text file input c api d =
    elim (of_api means text api (linked file api d) c input) [
      | inl p ↦ inl (p.0, record { api = api; declares = d; prints = p.1 })
      | inr r ↦ inr (r.0, record { api = api; declares = d; refuses = r.1 })
    ]

-- a set without faults declares an API
pub each_declared : EachApi → (file : List ℕ) (set : FileSet) → set_reading file ≡ Ok set → faults set ≡ []
    → (api : Api) × Declares file api
each_declared law file set read none =
    let a = law set none in (a.0, record { set = set; read = read; linked = (none, a.1) })
