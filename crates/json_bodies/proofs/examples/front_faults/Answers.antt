use Rattle.std.proofs.Common.{refl}
use Rattle.json_bodies.proofs.ExampleFacts.{ExampleLaws, blank_shown_behind_a_number, letter_behind_a_number, machine, no_number_shown, nothing_shown, null_shown_for_a_book, shown_behind_a_text}
use Rattle.json_bodies.proofs.examples.front_faults.Goals as goal

pub returns : goal.returns
returns c =
    let reader = c.new-reader in
    let laws : ExampleLaws = record {
      told = machine reader.result reader.ensures.fresh reader.ensures.stands reader.ensures.idle;
      some = c.bytes_have_one_list_of_tokens.ensures.some;
      first = c.bytes_have_one_list_of_tokens.ensures.first;
      same = c.fronts_have_one_list_of_tokens.ensures.tokens;
      readings = c.readings_hold.ensures;
    } in
    record {
      empty = nothing_shown laws c.sound_fronts_show_no_fault.ensures 0;
      cut_behind_a_number = no_number_shown laws c.sound_fronts_show_no_fault.ensures 0;
      blank_behind_a_number = blank_shown_behind_a_number laws 0 13 refl;
      letter_behind_a_number = letter_behind_a_number laws 0 16 refl;
      null_for_a_book = null_shown_for_a_book laws 0 1 refl;
      behind_a_text = shown_behind_a_text laws 0 13 refl;
      behind_a_placed_text = shown_behind_a_text laws 100 113 refl;
    }
