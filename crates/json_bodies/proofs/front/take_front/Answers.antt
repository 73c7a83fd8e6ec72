use Rattle.std.proofs.Common.{[]}
use Rattle.json_events.specs.JsonText.{marks_of}
use Rattle.json_meanings.specs.KnownReadings.{schema_of}
use Rattle.json_bodies.proofs.FrontLemmas.{front_read}
use Rattle.json_bodies.proofs.TakenLemmas.{taken_nothing}
use Rattle.json_bodies.proofs.front.take_front.Goals as goal

pub returns : goal.returns
returns c =
    let d = schema_of c.args.types.now in
    let bytes = c.args.bytes.now in
    let e = c.new-reader.ensures in
    let begins = c.readers_stand_for_the_front_of_a_text.ensures.begins c.new-reader.result [] [] e.fresh e.stands in
    let start =
    taken_nothing c.new-reader.result c.in_ok-builder.builder d c.args.id c.args.part c.args.place bytes e.fresh e.stands begins
    c.in_ok-builder.ensures.reads in
    let tokens = c.readers_stand_for_the_front_of_a_text.ensures.tokens in
    let unfaulty = c.taken_tokens_have_no_fault.ensures in
    front_read d c.args.id c.args.part c.args.place bytes c.take_all.result _ _ c.take_all.ensures.ok c.take_all.ensures.err
    (λ told.
    let t = told c.args.id c.args.part start in
    c.sound_fronts_show_no_fault.ensures d c.args.id c.args.part c.args.place bytes t.tokens
    (tokens c.take_all.new.reader bytes t.tokens t.fresh t.stands t.ended)
    (λ f. unfaulty c.take_all.new.builder d c.args.id c.args.part c.args.place (marks_of t.tokens) f t.reads))
    (λ f refused. refused c.args.id c.args.part start)
