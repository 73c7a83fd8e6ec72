-- What a reader of parts has read.
use Rattle.std.specs.Prelude.{◌≡◌, ◌++◌, ◌<◌, ℕ, List, [], length, nat_lt, Option, Some, None, if◌then◌else◌, ⊤}
use Rattle.http1_front.specs.declared.part.Part.{Part}
use Rattle.http1_front.specs.declared.place.Place.{Place}
use Rattle.http1_front.specs.declared.part_reader.PartState.{PartState}
use Rattle.http1_front.specs.declared.part_reader.PartState.TheVariants as states
use Rattle.http1_front.specs.declared.part_reader.Progress.{Progress}
use Rattle.http1_front.specs.declared.part_reader.Progress.TheVariants as progresses
use Rattle.http1_requests.specs.HeadEnd.{Cut, NoEnd, TooLarge, Ends, cut_at, size_limit}
use Rattle.http1_front.specs.declared.scan.Found.{Found}
use Rattle.http1_front.specs.PartSizes.{part_size}
use Rattle.http1_front.specs.PartScan.{IsScanned, IsWhole}

-- a part, its bytes so far, and how many of its lines have ended
pub record ReadPart : Type 0 where
  pub part : Part
  pub bytes : List ℕ
  pub lines : ℕ

-- how far a part is, of bytes that begin with it
abbrev pub part_cut : Part → List ℕ → Cut
part_cut part bytes = cut_at (part_size part) bytes

-- what was cut, with more bytes behind it
abbrev pub behind_cut : Cut → List ℕ → Cut
behind_cut NoEnd more = NoEnd
behind_cut TooLarge more = TooLarge
behind_cut (Ends part rest) more = Ends part (rest ++ more)

-- how far it is, as it is told; a part that is whole has no bytes behind it
abbrev pub IsStateOf : Cut → List ℕ → PartState → Type 0
IsStateOf cut bytes states.Open = cut ≡ NoEnd
IsStateOf cut bytes states.Whole = cut ≡ Ends bytes []
IsStateOf cut bytes states.TooLarge = cut ≡ TooLarge

-- a part of which nothing has come
abbrev pub IsNewPart : Part → ReadPart → Type 0
IsNewPart part r = r ≡ record { part = part; bytes = []; lines = 0 }

-- what a part has come to with so many bytes, where the scan stands at a place, or has found the end
abbrev pub progress_behind : Option Place → ℕ → Progress
progress_behind None len = progresses.Whole
progress_behind (Some place) len = if nat_lt len size_limit then progresses.Open place else progresses.TooLarge

-- what these bytes of a part have come to
abbrev pub HasProgress : Part → Progress → ℕ → List ℕ → Type 0
HasProgress part (progresses.Open place) lines bytes = IsScanned part bytes place lines × (length bytes < size_limit)
HasProgress part progresses.Whole lines bytes = IsWhole part bytes lines
HasProgress part progresses.TooLarge lines bytes =
    (place : Place) × IsScanned part bytes place lines × (length bytes ≡ size_limit)

-- a part that is open then has all of a piece
abbrev pub TakesAll : Progress → List ℕ → Type 0
TakesAll (progresses.Open place) rest = rest ≡ []
TakesAll progresses.Whole rest = ⊤
TakesAll progresses.TooLarge rest = ⊤

-- what was kept of a piece, behind which the rest of the piece stands
pub record IsKept (part : Part) (bytes : List ℕ) (found : Found) (rest : List ℕ) : Type 0 where
  pub has : HasProgress part (progress_behind found.place (length bytes)) found.lines bytes
  pub all : TakesAll (progress_behind found.place (length bytes)) rest
