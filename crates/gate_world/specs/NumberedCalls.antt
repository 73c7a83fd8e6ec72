-- Calls in memory that are counted from 0, of which those of listed numbers fail.
use Rattle.std.specs.Prelude.{◌≡◌, ◌+◌, ℕ, Bool, List, if◌then◌else◌, nat_eq}
use Rattle.std.specs.List.{list_any}
use Rattle.base.specs.Saturated.{saturated}
use Rattle.gate_world.specs.declared.in_memory.numbered.Numbered.{Numbered}

-- the number of the next call is listed
abbrev pub is_listed : Numbered → Bool
is_listed n = list_any (λ k. nat_eq k n.calls) n.fails

-- no call so far, and no fault
pub record IsUncalled (n : Numbered) (fails : List ℕ) : Type 0 where
  pub calls : n.calls ≡ 0
  pub fails_are : n.fails ≡ fails
  pub faults : n.faults ≡ 0

-- one call more was made, up to the last value of u64; the list is as before
pub record IsOneCall (old new : Numbered) : Type 0 where
  pub calls : new.calls ≡ saturated (old.calls + 1)
  pub fails : new.fails ≡ old.fails

-- the count of faults behind a call: one more exactly where the call failed, up to the last value of u64
abbrev pub faults_after : ℕ → Bool → ℕ
faults_after faults failed = if failed then saturated (faults + 1) else faults
