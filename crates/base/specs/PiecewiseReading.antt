-- Readers that take a list of bytes in pieces: calls one after another, and what was told by then.
--
-- The definition on whole lists is met through a relation `Stands` of a state, all bytes that were taken,
-- and all that was told of them.
use Rattle.std.specs.Prelude.{◌≡◌, ◌++◌, ℕ, List, [], ◌∷◌, take, Result, Ok, Err}

-- a reader by its calls: it keeps states `S`, answers `A` where it refuses nothing and a fault `F` where it
-- does, and has told `W` so far
pub record PieceReader (S A F W : Type 0) : Type 1 where
  -- the state before a call, the bytes that are given, the answer, and the state after it
  pub Step : S → List ℕ → Result A F → S → Type 0
  -- how many of the bytes are taken, from the first on
  pub taken : A → ℕ
  -- what is told by then: what was told before, with an answer and the bytes that it took
  pub tells : A → List ℕ → W → W

-- a call that was not refused: the bytes that were given, and the answer
pub record FeedCall (A : Type 0) : Type 0 where
  pub bytes : List ℕ
  pub fed : A

-- the bytes that a call took
abbrev pub taken_in : {A : Type 0} → (A → ℕ) → FeedCall A → List ℕ
taken_in {A} taken call = take (taken call.fed) call.bytes

-- the bytes that all calls took, one after another
abbrev pub taken_in_all : {A : Type 0} → (A → ℕ) → List (FeedCall A) → List ℕ
taken_in_all {A} taken [] = []
taken_in_all {A} taken (call ∷ calls) = taken_in taken call ++ taken_in_all taken calls

-- what is told after all calls
abbrev pub told_by_all : {S A F W : Type 0} → PieceReader S A F W → W → List (FeedCall A) → W
told_by_all {S} {A} {F} {W} r told [] = told
told_by_all {S} {A} {F} {W} r told (call ∷ calls) = told_by_all r (r.tells call.fed (taken_in r.taken call) told) calls

-- the calls lead from one state to another, and none of them is refused
abbrev pub IsRun : {S A F W : Type 0} → PieceReader S A F W → S → List (FeedCall A) → S → Type 0
IsRun {S} {A} {F} {W} r old [] new = old ≡ new
IsRun {S} {A} {F} {W} r old (call ∷ calls) new =
    (next : S) × r.Step old call.bytes (Ok call.fed) next × IsRun r next calls new

-- a call adds the bytes that it took, and what it told, to those for which the state stood
abbrev pub AddsTaken : {S A F W : Type 0} → PieceReader S A F W → (S → List ℕ → W → Type 0) → Type 0
AddsTaken {S} {A} {F} {W} r Stands = (old new : S) (before bytes : List ℕ) (told : W) (fed : A)
    → Stands old before told → r.Step old bytes (Ok fed) new
    → Stands new (before ++ take (r.taken fed) bytes) (r.tells fed (take (r.taken fed) bytes) told)

-- a refusal is the first fault of the bytes that were taken, those that were given, and whatever follows
abbrev pub RefusesFirst : {S A F W : Type 0}
    → PieceReader S A F W → (S → List ℕ → W → Type 0) → (List ℕ → W → F → Type 0) → Type 0
RefusesFirst {S} {A} {F} {W} r Stands IsFirst = (old new : S) (before bytes more : List ℕ) (told : W) (fault : F)
    → Stands old before told → r.Step old bytes (Err fault) new → IsFirst (before ++ (bytes ++ more)) told fault
