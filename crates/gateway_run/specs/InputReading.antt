-- Which commands read their input, and what they leave of it.
use Rattle.std.specs.Prelude.{◌≡◌, ◌≤◌, ◌⊎◌, ℕ, List, [], drop, Option, Some, None, IfSome}
use Rattle.gate_world.specs.ToldFiles.{FileMap, IsMissing, told_file}
use Rattle.gateway_run.specs.CommandOutput.{body_in}
use Rattle.gateway_run.specs.Commands.{BindWords, Command, bind}
use Rattle.gateway_run.specs.DeclaredApi.{Declares}
use Rattle.gateway_run.specs.declared.status.Status.{Status}
use Rattle.gateway_run.specs.declared.status.Status.TheVariants as status
use Rattle.linked_api.specs.declared.api.Api.{Api}

-- bytes that an input holds: those that are told of it; any where none are
abbrev pub Holds : Option (List ℕ) → List ℕ → Type 0
Holds None input = Unit {0}
Holds (Some told) input = input ≡ told

-- bytes that an input holds are so
abbrev pub OfInput : Option (List ℕ) → (List ℕ → Type 0) → Type 0
OfInput told Is = (input : List ℕ) × Holds told input × Is input

-- a body is that of an input
abbrev pub IsBodyOf : Option (List ℕ) → List ℕ → Type 0
IsBodyOf told body = OfInput told (λ input. body ≡ body_in input)

-- the bytes of a file declare an API
abbrev pub IsServed : List ℕ → Type 0
IsServed file = (api : Api) × Declares file api

-- a status with which a command may end that read its input
abbrev pub FollowsInput : Status → Type 0
FollowsInput status.Usage = ⊥
FollowsInput status.Descriptors = ⊥
FollowsInput _ = Unit {0}

-- a command is `bind`
abbrev pub IsBind : Command → Type 0
IsBind c = (words : BindWords) × (c ≡ bind words)

-- a command that ended so may have read its input: it is `bind`, its set is not missing, and where the set's file is
-- told, that declares an API
pub record MayRead (command : Option Command) (files : Option FileMap) (s : Status) : Type 0 where
  pub words : BindWords
  pub command_is : command ≡ Some (bind words)
  pub there : IsMissing files words.set → ⊥
  pub served : IfSome (told_file files words.set) IsServed
  pub status : FollowsInput s

-- why a command that ended so answers that a read failed: one of its set's file did, or one of its input
abbrev pub FailedRead : Option Command → Option FileMap → Type 0 → Type 0 → Type 0
FailedRead command files Files Input = Files ⊎ (MayRead command files status.ReadFault × Input)

-- what is left of an input where some of its first 1,048,577 bytes were taken
abbrev pub LosesFront : List ℕ → Option (List ℕ) → Type 0
LosesFront input new = (n : ℕ) × (n ≤ 1048577) × (new ≡ Some (drop n input))

-- what is left of an input where its body was taken
abbrev pub LosesBody : List ℕ → Option (List ℕ) → Type 0
LosesBody input new = new ≡ Some (drop 1048577 input)

-- what `bind` leaves of a told input: nothing where there is an output, what stands behind the body where the request
-- is refused, all of it where it was not read, and else what stands behind the bytes that were read
abbrev pub BindLeaves : Status → List ℕ → Option (List ℕ) → Type 0
BindLeaves status.Done input new = new ≡ Some []
BindLeaves status.WriteFault input new = new ≡ Some []
BindLeaves status.Refused input new = LosesBody input new
BindLeaves status.ReadFault input new = LosesFront input new
BindLeaves status.NoMemory input new = LosesFront input new
BindLeaves status.Usage input new = new ≡ Some input
BindLeaves status.Descriptors input new = new ≡ Some input

-- what a command leaves of an input, where it is told
abbrev pub Leaves : Option Command → Status → Option (List ℕ) → Option (List ℕ) → Type 0
Leaves (Some (bind words)) s old new = IfSome old (λ input. BindLeaves s input new)
Leaves _ s old new = new ≡ old
