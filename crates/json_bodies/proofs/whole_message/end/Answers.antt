use Rattle.std.proofs.Common.{inr, subst, sym}
use Rattle.json_events.specs.JsonText.{marks_of}
use Rattle.json_events.specs.ReaderAnswers.{IsWholeWith}
use Rattle.json_events.specs.ReaderState.{Stands}
use Rattle.json_bodies.specs.BodySteps.{IsBodyRefusal}
use Rattle.json_meanings.specs.KnownReadings.{schema_of}
use Rattle.json_bodies.proofs.TakenLemmas.{end_last, last_begins, last_given, refused_end, refused_token}
use Rattle.json_bodies.proofs.whole_message.end.Goals as goal

pub returns-in-Ok-clause-ok : goal.returns-in-Ok-clause-ok
returns-in-Ok-clause-ok c id n bytes h =
    let d = schema_of c.args.types.now in
    let s = c.in-Ok-Some in
    let whole = subst (IsWholeWith (Stands c.args.reader.now)) s.field-0-is s.ensures.whole in
    let last = last_given c.args.reader.now c.args.builder.now d id n c.args.place bytes s.token h whole in
    end_last c.texts_have_the_tokens_of_trees.ensures.tree c.take.new.self d id n c.args.place bytes h.tokens s.token last
    (c.in-Ok.ensures.ok id n c.args.place (marks_of h.tokens) h.reads)

pub returns-in-Err-take-clause-err : goal.returns-in-Err-take-clause-err
returns-in-Err-take-clause-err c id n bytes h =
    let d = schema_of c.args.types.now in
    let s = c.in-Ok-Some in
    let whole = subst (IsWholeWith (Stands c.args.reader.now)) s.field-0-is s.ensures.whole in
    let last = last_given c.args.reader.now c.args.builder.now d id n c.args.place bytes s.token h whole in
    let begins = last_begins c.texts_have_the_tokens_of_trees.ensures.tree bytes h.tokens s.token last in
    subst (IsBodyRefusal d id n c.args.place bytes) (sym c.field_fault.ensures)
    (refused_token d id n c.args.place bytes h.tokens last.span s.token c.in-Err-take.fault last.mark last.from
    (inr (last.tree, last.text)) (c.in-Err-take.ensures.err id n c.args.place (marks_of h.tokens) h.reads begins))

pub returns-in-Err-clause-err : goal.returns-in-Err-clause-err
returns-in-Err-clause-err c id n bytes h =
    let d = schema_of c.args.types.now in
    let text = c.bytes_have_one_list_of_tokens.ensures.text in
    subst (IsBodyRefusal d id n c.args.place bytes) (sym c.syntax_fault.ensures)
    (refused_end c.readers_stand_for_the_front_of_a_text.ensures.tokens
    (λ j b ts all a x. let r = text j b ts all a x in (r.0, r.1)) c.args.reader.now c.args.builder.now d id n
    c.args.place bytes c.in-Err.fault h
    (λ f. c.taken_tokens_have_no_fault.ensures c.args.builder.now d id n c.args.place (marks_of h.tokens) f h.reads)
    c.in-Err.ensures.fault)
