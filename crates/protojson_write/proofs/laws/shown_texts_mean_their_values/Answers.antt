use Rattle.known_types.specs.KnownTexts.{known_text}
use Rattle.json_meanings.specs.KnownReadings.{schema_of}
use Rattle.message_types.specs.declared.messages.Types.{Types}
use Rattle.schema.specs.Soundness.{IsSound}
use Rattle.protojson_write.specs.ShownMeans.{HasUtf8Names, IsReadBack}
use Rattle.protojson_write.proofs.laws.shown_texts_mean_their_values.Goals as goal

pub returns : goal.returns
returns c = record {
  means = λ types id n v w sound utf8 showable e.
      c.texts_that_are_read_back_mean_their_values.ensures.means known_text (schema_of types) id n v w
      (rests types sound utf8) showable e;
  alone = λ types id n v u w sound utf8 showable e other.
      c.texts_that_are_read_back_mean_their_values.ensures.alone known_text (schema_of types) id n v u w
      (rests types sound utf8) showable e other;
  once = λ types id v u w sound utf8 first second e d.
      c.texts_that_are_read_back_mean_their_values.ensures.once known_text (schema_of types) id v u w
      (rests types sound utf8) first second e d;
  field_once = λ types id n v u w sound utf8 first second e d.
      c.texts_that_are_read_back_mean_their_values.ensures.field_once known_text (schema_of types) id n v u w
      (rests types sound utf8) first second e d;
}
  where
    rests : (types : Types) → IsSound types → HasUtf8Names types → IsReadBack known_text (schema_of types)
    rests types sound utf8 = record {
      sound = sound;
      names = utf8;
      agree = c.known_texts_are_read_back.ensures types sound;
    }
