-- The limits of a template that is parsed, and what is answered past them.
use Rattle.std.specs.Prelude.{◌≤◌, ◌<◌, ℕ, length, Result, Ok, Err, ⊤}
use Rattle.http_rules.specs.declared.fault.TemplateFault.{TemplateFault}
use Rattle.http_rules.specs.declared.fault.TemplateFault.TheVariants as faults
use Rattle.http_rules.specs.declared.state.Act.{Act}
use Rattle.http_rules.specs.declared.state.Act.TheVariants as act
use Rattle.http_rules.specs.declared.parts.Parts.{Parts}

-- the parts are within the limits
abbrev pub AreFew : Parts → Type 0
AreFew m = (length m.segments ≤ 64) × (length m.variables ≤ 16)

-- no syntax fault, and too many only where these are
abbrev pub RefusesOver : {T : Type 0} → Result T TemplateFault → Type 0 → Type 0
RefusesOver (Ok x) over = ⊤
RefusesOver (Err faults.TooMany) over = over
RefusesOver (Err faults.NoMemory) over = ⊤
RefusesOver (Err (faults.Syntax n)) over = ⊥

-- a byte that is kept is ASCII
abbrev pub KeepsAscii : Act → ℕ → Type 0
KeepsAscii act.Skip b = ⊤
KeepsAscii act.Keep b = b < 128
KeepsAscii act.EndName b = ⊤
KeepsAscii act.OpenRange b = ⊤
KeepsAscii act.CloseBare b = ⊤
KeepsAscii (act.EndSegment x) b = ⊤
KeepsAscii (act.CloseRange x) b = ⊤
