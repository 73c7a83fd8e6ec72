use Rattle.std.proofs.Common.{◌++◌, ◌≤◌, subst, sym, take}
use Rattle.json_events.specs.JsonText.{marks_of}
use Rattle.json_meanings.specs.TokenNesting.{nesting_limit}
use Rattle.json_bodies.specs.BodySteps.{IsFrontRefusal}
use Rattle.json_meanings.specs.KnownReadings.{schema_of}
use Rattle.json_bodies.proofs.BodyLemmas.{shorter_front}
use Rattle.json_bodies.proofs.TakenLemmas.{left_over, next_begins, next_given, refused_bytes, refused_front_token, taken_all, taken_next}
use Rattle.json_bodies.proofs.whole_message.take_all.Goals as goal

pub returns-in-Err-clause-err : goal.returns-in-Err-clause-err
returns-in-Err-clause-err c id n h =
    let d = schema_of c.args.types.now in
    let i = c.taking.invariant in
    let t = i.told id n h in
    subst (IsFrontRefusal d id n c.args.place c.args.bytes.now) (sym c.syntax_fault.ensures)
    (refused_bytes (shorter_front c.fronts_have_one_list_of_tokens.ensures.fronts)
    c.faults_have_the_place_of_the_longest_front.ensures.tokens c.taking.reader c.taking.builder d id n c.args.place
    c.args.bytes.now i.taken c.taking.rest.now c.in-Err.fault i.split t
    (λ f. c.taken_tokens_have_no_fault.ensures c.taking.builder d id n c.args.place (marks_of t.tokens) f t.reads)
    (subst (λ k. k ≤ nesting_limit) (sym ((c.brackets_nest_within_a_limit.ensures d id n).counted t.tokens))
    (c.taken_brackets_nest_within_a_limit.ensures c.taking.builder d id n c.args.place (marks_of t.tokens) t.reads))
    c.in-Err.ensures.fault)

pub returns-in-None-clause-ok : goal.returns-in-None-clause-ok
returns-in-None-clause-ok c id n h =
    let i = c.taking.invariant in
    let e = c.in-Ok.ensures in
    taken_all c.taking.reader c.feed.new.self c.taking.builder (schema_of c.args.types.now) id n c.args.place c.args.bytes.now
    i.taken c.taking.rest.now c.in-Ok.fed i.split c.in-None.is (e.all c.in-None.is) (i.told id n h) e.stands e.accepted

pub returns-in-Err-take-clause-err : goal.returns-in-Err-take-clause-err
returns-in-Err-take-clause-err c id n h =
    let d = schema_of c.args.types.now in
    let i = c.taking.invariant in
    let rest = c.taking.rest.now in
    let fed = c.in-Ok.fed in
    let token = c.in-Some.token in
    let t = i.told id n h in
    let x =
    next_given c.taking.reader c.feed.new.self c.taking.builder d id n c.args.place c.args.bytes.now i.taken rest fed token t
    i.split c.in-Some.is c.in-Ok.ensures.stands in
    let begins =
    next_begins c.texts_have_the_tokens_of_trees.ensures.begins c.feed.new.self c.args.bytes.now
    (i.taken ++ take fed.taken rest) t.tokens token x in
    let refuses = rw c.in-Some.is at (c.in-Err-take.ensures.err id n c.args.place (marks_of t.tokens) t.reads) in
    subst (IsFrontRefusal d id n c.args.place c.args.bytes.now) (sym c.field_fault.ensures)
    (refused_front_token d id n c.args.place c.args.bytes.now t.tokens x.span token c.in-Err-take.fault x.mark x.from x.ended
    (refuses begins))

pub taking-preserved : goal.taking-preserved
taking-preserved c =
    let d = schema_of c.args.types.now in
    let i = c.taking.invariant in
    let rest = c.taking.rest.now in
    let fed = c.in-Ok.fed in
    let token = c.in-Some.token in
    record {
      taken = i.taken ++ take fed.taken rest;
      split = left_over i.taken rest c.args.bytes.now fed.taken i.split;
      told = λ id n h.
          let t = i.told id n h in
          let x =
          next_given c.taking.reader c.feed.new.self c.taking.builder d id n c.args.place c.args.bytes.now i.taken rest fed token
          t i.split c.in-Some.is c.in-Ok.ensures.stands in
          let took = rw c.in-Some.is at (c.in_default.ensures.ok id n c.args.place (marks_of t.tokens) t.reads) in
          taken_next c.feed.new.self c.take.new.self d id n c.args.place c.args.bytes.now (i.taken ++ take fed.taken rest) t.tokens
          token x c.in-Ok.ensures.accepted took;
    }
