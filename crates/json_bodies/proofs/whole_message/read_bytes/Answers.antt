use Rattle.std.proofs.Common.{[]}
use Rattle.std.proofs.lemmas.Result.{err_from_is_err_and}
use Rattle.json_meanings.specs.KnownReadings.{schema_of}
use Rattle.json_bodies.proofs.FrontLemmas.{front_refusal}
use Rattle.json_bodies.proofs.TakenLemmas.{refused_reading, taken_nothing}
use Rattle.json_bodies.proofs.whole_message.read_bytes.Goals as goal

pub returns-in_err-take_all : goal.returns-in_err-take_all
returns-in_err-take_all c =
    let d = schema_of c.args.types.now in
    let bytes = c.args.bytes.now in
    let e = c.new-reader.ensures in
    let begins = c.readers_stand_for_the_front_of_a_text.ensures.begins c.new-reader.result [] [] e.fresh e.stands in
    let start =
    taken_nothing c.new-reader.result c.in_ok-builder.builder d c.args.id c.args.part c.args.place bytes e.fresh e.stands begins
    c.in_ok-builder.ensures.reads in
    let back = c.from_residual-in_err-take_all in
    let p = err_from_is_err_and back.result back.ensures.1 in
    rw (p.1, p.2)
    (refused_reading d c.args.id c.args.part c.args.place bytes _
    (front_refusal d c.args.id c.args.part c.args.place bytes _
    (c.in_err-take_all.ensures.err c.args.id c.args.part start)))

pub returns-in_err-end : goal.returns-in_err-end
returns-in_err-end c =
    let d = schema_of c.args.types.now in
    let bytes = c.args.bytes.now in
    let e = c.new-reader.ensures in
    let begins = c.readers_stand_for_the_front_of_a_text.ensures.begins c.new-reader.result [] [] e.fresh e.stands in
    let start =
    taken_nothing c.new-reader.result c.in_ok-builder.builder d c.args.id c.args.part c.args.place bytes e.fresh e.stands begins
    c.in_ok-builder.ensures.reads in
    let taken = c.in_ok-take_all.ensures.ok c.args.id c.args.part start in
    let back = c.from_residual-in_err-end in
    let p = err_from_is_err_and back.result back.ensures.1 in
    rw (p.1, p.2)
    (refused_reading d c.args.id c.args.part c.args.place bytes _ (c.in_err-end.ensures.err c.args.id c.args.part bytes taken))

pub done-requires : goal.done-requires
done-requires c =
    let d = schema_of c.args.types.now in
    let bytes = c.args.bytes.now in
    let e = c.new-reader.ensures in
    let begins = c.readers_stand_for_the_front_of_a_text.ensures.begins c.new-reader.result [] [] e.fresh e.stands in
    let start =
    taken_nothing c.new-reader.result c.in_ok-builder.builder d c.args.id c.args.part c.args.place bytes e.fresh e.stands begins
    c.in_ok-builder.ensures.reads in
    let taken = c.in_ok-take_all.ensures.ok c.args.id c.args.part start in
    let all = c.in_ok-end.ensures.ok c.args.id c.args.part bytes taken in
    record {
      whole =
          c.taken_trees_have_ended.ensures c.end.new.builder d c.args.id c.args.part c.args.place all.tree all.reads;
    }

pub returns : goal.returns
returns c =
    let d = schema_of c.args.types.now in
    let bytes = c.args.bytes.now in
    let e = c.new-reader.ensures in
    let begins = c.readers_stand_for_the_front_of_a_text.ensures.begins c.new-reader.result [] [] e.fresh e.stands in
    let start =
    taken_nothing c.new-reader.result c.in_ok-builder.builder d c.args.id c.args.part c.args.place bytes e.fresh e.stands begins
    c.in_ok-builder.ensures.reads in
    let taken = c.in_ok-take_all.ensures.ok c.args.id c.args.part start in
    let all = c.in_ok-end.ensures.ok c.args.id c.args.part bytes taken in
    (all.tree, all.text, c.done.ensures d c.args.id c.args.part c.args.place all.tree all.reads)
