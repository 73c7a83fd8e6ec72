-- A sink in memory: what a write takes.
use Rattle.std.specs.Prelude.{◌-◌, ◌==◌, ◌||◌, ◌&&◌, ℕ, Bool, List, length, min, not, nat_le}
use Rattle.gate_world.specs.NumberedCalls.{is_listed}
use Rattle.gate_world.specs.declared.in_memory.fixed_sink.FixedSink.{FixedSink}

-- the room that is left
abbrev pub room_left : FixedSink → ℕ
room_left s = s.room - length s.taken.items

-- a write fails: its number is listed, or no room is left for a piece that is not empty
abbrev pub takes_nothing : FixedSink → List ℕ → Bool
takes_nothing s piece = is_listed s.calls || (nat_le (room_left s) 0 && not (length piece == 0))

-- how many bytes of a piece are taken
abbrev pub taken_of : FixedSink → List ℕ → ℕ
taken_of s piece = min (length piece) (room_left s)
