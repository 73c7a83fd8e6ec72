use Rattle.std.proofs.Common.{◌≡◌, ◌++◌, IsUtf8, chars}
use Rattle.std.specs.Str.Iter.{chars_rest}
use Rattle.std.specs.Str.{encode_utf8_all}
use Rattle.descriptor_pool.specs.JsonFieldNames.{camel, camel_name}
use Rattle.descriptor_pool.proofs.json_names.camel_name.Given as goal

abbrev pub invariant-loop-c : goal.invariant-loop-c
invariant-loop-c l = record {
  utf8 : IsUtf8 (chars_rest l.c-iterator);
  told : l.json ++ encode_utf8_all (camel l.is_after_underscore (chars (chars_rest l.c-iterator))) ≡ camel_name l.name;
}
