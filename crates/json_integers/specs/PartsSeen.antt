-- A text that was cut, as the definitions see it.
use Rattle.json_events.specs.JsonNumbers.{NumberParts}
use Rattle.json_integers.specs.declared.parts.Parts.{Parts}

-- the four parts, with their bytes
abbrev pub parts_seen : Parts → NumberParts
parts_seen p = record { minus = p.minus.now; int = p.int.now; fraction = p.fraction.now; exponent = p.exponent.now }
