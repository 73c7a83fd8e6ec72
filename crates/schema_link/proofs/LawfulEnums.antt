-- Lawful enums are sound.
use Rattle.std.proofs.Common.{◌≡◌, ◌≢◌, ◌==◌, Bool, true, List, [], ◌∷◌, length, map, sym, ◌∙◌}
use Rattle.std.proofs.lemmas.Bool.{and_parts, eqb-true}
use Rattle.std.proofs.lemmas.List.{length-map}
use Rattle.std.proofs.lemmas.Map.Made.{IsDistinct-from_count}
use Rattle.std.specs.List.{IsDistinct}
use Rattle.std.specs.Set.{distinct_count}
use Rattle.std.specs.Str.{bytes_eq}
use Rattle.base.proofs.TextLemmas.{bytes_eq_equiv}
use Rattle.schema.specs.Apart.{AreApart}
use Rattle.schema.specs.Soundness.{IsSoundEnum}
use Rattle.message_types.specs.declared.enums.EnumType.{EnumType}
use Rattle.message_types.specs.declared.enums.EnumValue.{EnumValue}
use Rattle.set_faults.specs.MessageFaults.{begins_with_zero, is_lawful_enum}

-- items that are distinct are apart
pub apart : {X : Type 0} (test : X → X → Bool) (xs : List X) → IsDistinct test xs → AreApart test xs
unfolding IsDistinct
apart test [] d = tt
apart test (x ∷ xs) d = (d.0, apart test xs d.1)

some : (vs : List EnumValue) → begins_with_zero vs ≡ true → vs ≢ []
some [] h e = absurd (cc h)
some (v ∷ vs) h e = cc e

-- a lawful enum is sound
pub enum_sound : (e : EnumType) → is_lawful_enum e.values ≡ true → IsSoundEnum e
enum_sound e h =
    let names = map (λ (v : EnumValue). v.name) e.values in
    let parts = and_parts (begins_with_zero e.values) (distinct_count bytes_eq names == length e.values) h in
    let count = eqb-true (distinct_count bytes_eq names) (length e.values) parts.1
    ∙ sym (length-map e.values (λ (v : EnumValue). v.name)) in
    record {
      some = some e.values parts.0;
      names = apart bytes_eq names (IsDistinct-from_count bytes_eq_equiv names count);
    }
