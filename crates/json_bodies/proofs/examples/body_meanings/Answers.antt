use Rattle.std.proofs.Common.{codes, refl}
use Rattle.std.specs.Char.{encode_utf8}
use Rattle.std.specs.Str.{IsUtf8}
use Rattle.json_events.specs.declared.state.Name.TheVariants as names
use Rattle.json_meanings.specs.ExampleTypes.{one_pair}
use Rattle.json_events.specs.JsonTree.{literal, object, no_pairs}
use Rattle.json_bodies.proofs.examples.body_meanings.Goals as goal

lent_utf8 : IsUtf8 (codes "lent")
unfolding encode_utf8
lent_utf8 = (codes "lent", (refl, refl))

pub returns : goal.returns
returns c = record {
  nothing = (
    object no_pairs,
    (
      _,
      (
        codes " ",
        codes "{",
        codes "} ",
        _,
        refl,
        refl,
        refl,
        (codes "", codes "}", codes " ", _, refl, refl, refl, (refl, refl), refl),
        refl,
      ),
    ),
    refl,
  );
  member = (
    one_pair (codes "lent") (literal names.True),
    (
      _,
      (
        codes "",
        codes "{",
        codes "\"lent\": true}",
        _,
        refl,
        refl,
        refl,
        (
          codes "",
          codes "\"lent\"",
          codes ": true}",
          _,
          refl,
          refl,
          c.written_texts_mean_their_values.ensures.strings (codes "lent") lent_utf8,
          (
            codes "",
            codes ":",
            codes " true}",
            _,
            refl,
            refl,
            refl,
            (
              codes " ",
              codes "true",
              codes "}",
              _,
              refl,
              refl,
              refl,
              (codes "", codes "}", codes "", _, refl, refl, refl, (refl, refl), refl),
              refl,
            ),
            refl,
          ),
          refl,
        ),
        refl,
      ),
    ),
    refl,
  );
  part = (
    literal names.True,
    (_, (codes "\t", codes "true", codes "\n", _, refl, refl, refl, (refl, refl), refl)),
    refl,
  );
}
