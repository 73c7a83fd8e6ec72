use Rattle.std.proofs.Common.{◌≡◌, Bool, false, cond, [], Some, None, ap, sym, ◌∙◌, subst}
use Rattle.json_events.specs.declared.state.WordState.{WordState}
use Rattle.json_events.specs.JsonTree.{digits}
use Rattle.json_events.specs.WordSteps.{mark_of}
use Rattle.json_events.specs.WordStates.{IsOpen}
use Rattle.json_events.specs.HeldWords.{HoldsOnly, HoldsWord}
use Rattle.json_events.specs.NestingSpot.{spot_seen}
use Rattle.json_events.specs.ReaderState.{Reading, IsReadableWord, IsReadable}
use Rattle.json_events.specs.ProgressSeen.{reading_of, state_of, from_of}
use Rattle.json_events.proofs.reading.HeldLemmas.{whole_utf8}
use Rattle.json_events.proofs.reading.EndLemmas.{end_not_done, end_gap, end_open, end_number, end_stands}
use Rattle.json_events.proofs.progress.Progress.end.Goals as goal

is_open : (r : Reading) (l : WordState) → IsReadable r → r.word ≡ Some l → IsOpen l
is_open r l h e = (subst (λ w. IsReadableWord w r.place.want) e h.word).0

holds : (r : Reading) (l : WordState) → IsReadable r → r.word ≡ Some l → HoldsWord l r.held
holds r l h e = subst (λ w. HoldsOnly w r.held) e h.holds

pub returns-then-not-is_done-clause-fault : goal.returns-then-not-is_done-clause-fault
returns-then-not-is_done-clause-fault c =
    end_not_done (reading_of c.args.self.now) (λ xs. c.is_done.ensures xs ∙ ap (λ (t : Bool). cond t (Some xs) None) c.if-not-is_done.true)

pub take_number-requires : goal.take_number-requires
take_number-requires c =
    let r = reading_of c.args.self.now in
    let l = c.in-Some.word.state in
    let mark : mark_of l false r.held ≡ Some (digits r.held) = c.is_whole.ensures false r.held ∙ ap (λ (t : Bool). cond t (Some (digits r.held)) None) c.if-is_whole.true in
    whole_utf8 l r.held (is_open r l c.requires.readable (ap state_of c.in-Some.is)) mark (holds r l c.requires.readable (ap state_of c.in-Some.is))

pub returns-in-None-clause-whole : goal.returns-in-None-clause-whole
returns-in-None-clause-whole c =
    end_gap (reading_of c.args.self.now) (ap state_of c.in-None.is) (c.is_done.ensures [] ∙ ap (λ (t : Bool). cond t (Some []) None) c.if-not-is_done.false)

pub returns-then-is_whole-clause-stands : goal.returns-then-is_whole-clause-stands
returns-then-is_whole-clause-stands c =
    let r = reading_of c.args.self.now in
    let e = c.take_number.ensures in
    let mark : mark_of c.in-Some.word.state r.is_key r.held ≡ Some (digits r.held) = c.is_whole.ensures r.is_key r.held ∙ ap (λ (t : Bool). cond t (Some (digits r.held)) None) c.if-is_whole.true in
    end_stands r (reading_of c.take_number.new.self) c.in-Some.word.state c.take_number.result c.requires.readable (ap state_of c.in-Some.is) mark e.mark (e.placed.0 ∙ sym (ap from_of c.in-Some.is)) e.placed.1 (ap state_of e.word) (ap spot_seen e.spot) e.at

pub returns-then-is_whole-clause-whole : goal.returns-then-is_whole-clause-whole
returns-then-is_whole-clause-whole c =
    let r = reading_of c.args.self.now in
    let e = c.take_number.ensures in
    let mark : mark_of c.in-Some.word.state r.is_key r.held ≡ Some (digits r.held) = c.is_whole.ensures r.is_key r.held ∙ ap (λ (t : Bool). cond t (Some (digits r.held)) None) c.if-is_whole.true in
    end_number r c.in-Some.word.state c.take_number.result (ap state_of c.in-Some.is) mark (λ xs. c.is_done.ensures xs ∙ ap (λ (t : Bool). cond t (Some xs) None) c.if-not-is_done.false) e.mark (e.placed.0 ∙ sym (ap from_of c.in-Some.is)) e.placed.1

pub returns-else-is_whole-clause-fault : goal.returns-else-is_whole-clause-fault
returns-else-is_whole-clause-fault c =
    let r = reading_of c.args.self.now in
    end_open r c.in-Some.word.state (ap state_of c.in-Some.is) (c.is_whole.ensures r.is_key r.held ∙ ap (λ (t : Bool). cond t (Some (digits r.held)) None) c.if-is_whole.false)
