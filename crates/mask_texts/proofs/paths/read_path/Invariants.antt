use Rattle.std.proofs.Common.{◌≡◌, ◌++◌, drop}
use Rattle.std.specs.List.{flat_map, list_all}
use Rattle.mask_texts.specs.MaskTexts.{is_camel_byte, snake_byte}
use Rattle.mask_texts.proofs.paths.read_path.Given as goal

abbrev pub invariant-loop-byte : goal.invariant-loop-byte
invariant-loop-byte l = record {
  all : list_all is_camel_byte (drop l.byte-index l.piece) ≡ list_all is_camel_byte l.piece;
  read : l.path ++ flat_map snake_byte (drop l.byte-index l.piece) ≡ flat_map snake_byte l.piece;
}
