use Rattle.std.proofs.Common.{◌≡◌, drop}
use Rattle.json_meanings.specs.EnumNames.{number_named}
use Rattle.scalar_texts.proofs.numbers.number_named.Given as goal

abbrev pub invariant-loop-value : goal.invariant-loop-value
invariant-loop-value l = number_named (drop l.value-index l.values) l.name ≡ number_named l.values l.name
