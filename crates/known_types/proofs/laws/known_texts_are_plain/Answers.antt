use Rattle.std.proofs.Common.{◌≡◌, ℕ, List, true, Some}
use Rattle.std.specs.List.{list_all}
use Rattle.known_types.specs.KnownTexts.{known_text, mask_items, moment_of}
use Rattle.known_types.proofs.PlainLemmas.{IsPlain, instant_plain, length_plain, mask_plain}
use Rattle.known_types.proofs.laws.known_texts_are_plain.Goals as goal
use Rattle.message_types.specs.declared.messages.Known.{Known}
use Rattle.message_types.specs.declared.messages.Known.TheVariants.{Plain, Timestamp, Duration, FieldMask, Wrapper}
use Rattle.schema.specs.declared.value.Value.{Value}

pub returns : goal.returns
returns c = by
  where
    by : (known : Known) (v : Value) (text : List ℕ) → known_text known v ≡ Some text → IsPlain text
    by Timestamp v text h = instant_plain (moment_of v) text h
    by Duration v text h = length_plain (moment_of v) text h
    by FieldMask v text h =
        mask_plain (mask_items v) text (λ ps e. c.masks_are_plain_text.ensures.written text ps e) h
    by Plain v text h = absurd cc
    by Wrapper v text h = absurd cc
