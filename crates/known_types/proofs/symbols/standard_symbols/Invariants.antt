use Rattle.std.proofs.Common.{◌≡◌, ◌++◌, map, drop}
use Rattle.known_types.specs.BytesTexts.{standard_symbol as standard_of}
use Rattle.known_types.proofs.symbols.standard_symbols.Given as goal

abbrev pub invariant-loop-byte : goal.invariant-loop-byte
invariant-loop-byte l = l.out.items ++ map standard_of (drop l.byte-index l.text) ≡ map standard_of l.text
