use Rattle.std.proofs.Common.{None}
use Rattle.protojson_write.proofs.ShownScalars.{ScalarsAreReadBack}
use Rattle.protojson_write.proofs.ShownTexts.{field_once, shown_alone, shown_means, shown_once}
use Rattle.protojson_write.proofs.laws.texts_that_are_read_back_mean_their_values.Goals as goal

pub returns : goal.returns
returns c = record {
  means = λ texts k id n v w rests showable e. shown_means laws texts k rests id n v w showable e;
  alone = λ texts k id n v u w rests showable e other.
      shown_alone laws texts k rests c.texts_have_one_tree.ensures.tree c.readings_hold.ensures id n v u w showable e
      other;
  once = λ texts k id v u w rests first second e d.
      shown_once laws texts k rests c.texts_have_one_tree.ensures.tree c.readings_hold.ensures id None v u w first
      second e d;
  field_once = λ texts k id n v u w rests first second e d.
      field_once laws texts k rests c.texts_have_one_tree.ensures.tree c.readings_hold.ensures id n v u w first second e
      d;
}
  where
    laws : ScalarsAreReadBack
    laws = record {
      strings = c.written_texts_mean_their_values.ensures.strings;
      integers = c.written_texts_mean_their_values.ensures.integers;
      numbers = c.numbers_are_read_exactly.ensures.texts;
      ranges = c.numbers_are_read_exactly.ensures.ranges;
      spelled = λ t b h. c.spelled_bytes_are_computed.ensures t b h;
      written = c.written_bytes_are_read_back.ensures.spelled;
      symbols = c.written_bytes_are_symbols.ensures.symbols;
    }
