-- A text that was cut, as the definitions see it.
use Rattle.time_texts.specs.DurationTexts.{DurationParts}
use Rattle.time_texts.specs.declared.duration.Parts.{Parts}

-- the four parts, with their bytes
abbrev pub duration_parts_seen : Parts → DurationParts
duration_parts_seen p = record {
  minus = p.minus.now;
  whole = p.whole.now;
  fraction = p.fraction.now;
  unit = p.unit.now;
}
