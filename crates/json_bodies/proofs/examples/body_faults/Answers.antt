use Rattle.std.proofs.Common.{refl, ◌-◌, ◌^◌}
use Rattle.json_bodies.proofs.ExampleFacts.{ExampleLaws, before_the_break, behind_a_text, blank_behind_a_number, cut_behind_a_number, empty, half_at_the_end, machine, null_for_a_book}
use Rattle.json_bodies.proofs.examples.body_faults.Goals as goal

pub returns : goal.returns
returns c =
    let reader = c.new-reader in
    let laws : ExampleLaws = record {
      told = machine reader.result reader.ensures.fresh reader.ensures.stands reader.ensures.idle;
      some = c.bytes_have_one_list_of_tokens.ensures.some;
      first = c.bytes_have_one_list_of_tokens.ensures.first;
      same = c.fronts_have_one_list_of_tokens.ensures.tokens;
      readings = c.readings_hold.ensures;
    } in
    record {
      from_0 = record {
        null_for_a_book = null_for_a_book laws 0 1 refl;
        half_at_the_end = half_at_the_end laws 0 1 refl;
        before_the_break = before_the_break laws 0 1 refl;
        empty = empty laws 0 0 refl;
        cut_behind_a_number = cut_behind_a_number laws 0 16 refl;
        blank_behind_a_number = blank_behind_a_number laws 0 13 refl;
        behind_a_text = behind_a_text laws 0 13 refl;
      };
      from_100 = record {
        null_for_a_book = null_for_a_book laws 100 101 refl;
        half_at_the_end = half_at_the_end laws 100 101 refl;
        before_the_break = before_the_break laws 100 101 refl;
        empty = empty laws 100 100 refl;
        cut_behind_a_number = cut_behind_a_number laws 100 116 refl;
        blank_behind_a_number = blank_behind_a_number laws 100 113 refl;
        behind_a_text = behind_a_text laws 100 113 refl;
        last_place = behind_a_text laws (2 ^ 64 - 6) (2 ^ 64 - 1) refl;
      };
    }
