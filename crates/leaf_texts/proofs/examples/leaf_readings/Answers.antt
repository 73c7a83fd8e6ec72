use Rattle.std.proofs.Common.{◌≡◌, ◌∙◌, ℕ, cond, List, [], ◌∷◌, Ok, refl, sym, ap, subst}
use Rattle.std.specs.Prelude.{◌^◌, pos, negsuc, codes}
use lib.Utf8.{encode}
use Rattle.std.specs.Str.{chars, is_utf8}
use Rattle.std.proofs.lemmas.Str.{IsUtf8-from_is_utf8}
use Rattle.known_types.specs.KnownTextExamples.{is_message, path, with_slots}
use Rattle.known_types.specs.KnownTexts.{known_value, number_as_slot}
use Rattle.leaf_texts.specs.LeafExamples.{leaf_types}
use Rattle.leaf_texts.specs.LeafTexts.{IsKnownText, IsWrapperText, wrapper_of}
use Rattle.leaf_texts.proofs.examples.leaf_readings.Goals as goal
use Rattle.message_types.specs.declared.fields.Scalar.{Scalar}
use Rattle.message_types.specs.declared.fields.Scalar.TheVariants.{Uint32, Text as TextOf}
use Rattle.message_types.specs.declared.messages.Known.{Known}
use Rattle.message_types.specs.declared.messages.Known.TheVariants.{Timestamp, Duration, FieldMask}
use Rattle.scalar_texts.specs.ScalarTexts.{IsScalarText}
use Rattle.schema.specs.Layers.{ItemLayer}
use Rattle.schema.specs.Validity.{is_default}
use Rattle.schema.specs.declared.value.Item.TheOpen.{Number, Text, Message, One, Many}
use Rattle.schema.specs.declared.value.Item.{out-roll-Item, roll-Item}
use Rattle.schema.specs.declared.value.Slot.{One as OneSlot, Slot, roll-Slot}
use Rattle.schema.specs.declared.value.Slot.TheVariants.{rolls-One}
use Rattle.schema.specs.declared.value.Value.{Value}

-- the slots of a wrapper with this value
abbrev wrapper_slots : ItemLayer → List (ℕ × Slot)
wrapper_slots i = cond (is_default i) [] ((1, roll-Slot (One (roll-Item i))) ∷ [])

wrapper_is : (i : ItemLayer) → wrapper_of (roll-Item i) ≡ with_slots (wrapper_slots i)
wrapper_is i =
    ap (λ (j : ItemLayer). with_slots (cond (is_default j) [] ((1, OneSlot (roll-Item i)) ∷ []))) (out-roll-Item i)
    ∙ ap (λ (s : Slot). with_slots (cond (is_default i) [] ((1, s) ∷ []))) (sym (rolls-One (roll-Item i)))

-- a text of a wrapper
wrapped : (s : Scalar) (text : List ℕ) (i : ItemLayer) → IsScalarText leaf_types s text i
    → IsWrapperText leaf_types s text (Message (with_slots (wrapper_slots i)))
wrapped s text i h = (
  roll-Item i,
  subst (IsScalarText leaf_types s text) (sym (out-roll-Item i)) h,
  ap Message (sym (wrapper_is i)),
)

-- a text that is read
known : (type : Known) (text : List ℕ) (v : Value) → known_value type text ≡ Ok v
    → IsKnownText type text (Message v)
known type text v e = (v, e, refl)

one_and_a_half : known_value Duration (codes "1.5s")
    ≡ is_message ((1, number_as_slot (pos 1)) ∷ (2, number_as_slot (pos 500_000_000)) ∷ [])
one_and_a_half = refl

two_paths : known_value FieldMask (codes "a.b,cD")
    ≡ is_message ((1, roll-Slot (Many (path (codes "a.b") ∷ path (codes "c_d") ∷ []))) ∷ [])
two_paths = refl

pub returns : goal.returns
unfolding is_utf8 chars encode
returns c =
    let n = c.number_examples.ensures in
    let o = c.other_kind_examples.ensures in
    let k = c.known_readings.ensures.read in
    record {
      number = n.larger;
      unsigned = n.greatest_of_uint64;
      truth = o.truth;
      string = o.text;
      bytes = (c.bytes_examples.ensures.for_urls, tt);
      name = o.name;
      enum_number = o.number;
      wrapper = wrapped Uint32 (codes "2147483648") (Number (pos (2 ^ 31))) n.in_uint32;
      wrapped_default = wrapped Uint32 (codes "-0") (Number (pos 0)) n.minus_zero;
      wrapped_string = wrapped TextOf (codes "1.5") (Text (codes "1.5")) o.text;
      wrapped_nothing = wrapped TextOf [] (Text []) (refl, IsUtf8-from_is_utf8 [] refl);
      instant =
          known Timestamp (codes "1969-12-31T23:59:59.25Z")
          (with_slots ((1, number_as_slot (negsuc 0)) ∷ (2, number_as_slot (pos 250_000_000)) ∷ [])) k.before;
      length =
          known Duration (codes "1.5s")
          (with_slots ((1, number_as_slot (pos 1)) ∷ (2, number_as_slot (pos 500_000_000)) ∷ [])) one_and_a_half;
      mask =
          known FieldMask (codes "a.b,cD")
          (with_slots ((1, roll-Slot (Many (path (codes "a.b") ∷ path (codes "c_d") ∷ []))) ∷ [])) two_paths;
    }
