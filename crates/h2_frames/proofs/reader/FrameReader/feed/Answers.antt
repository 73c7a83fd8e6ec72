-- Each call gives what the definitions say of all the bytes.
use Rattle.std.proofs.Common.{◌≡◌, ◌<◌, ◌≤◌, ℕ, length, sym, ap, subst, ◌∙◌, rules}
use Rattle.h2_frames.specs.declared.stage.Stage.{Stage}
use Rattle.h2_frames.specs.FrameReader.{Kept}
use Rattle.h2_frames.specs.FrameWords.{left_in, fault_in, IsHeadOf}
use Rattle.h2_frames.proofs.CallLemmas.{stuck_gives, head_gives, more_gives, last_gives, last_frame, if_done, bytes_of}
use Rattle.h2_frames.proofs.ProgressLemmas.{head_follows, more_follows, last_follows, head_refuses, more_refuses, last_refuses, stuck_refuses, head_stays, more_stays, last_stays}
use Rattle.h2_frames.proofs.reader.FrameReader.feed.Goals as goal

pub returns-in-Refused-clause-stands : goal.returns-in-Refused-clause-stands
returns-in-Refused-clause-stands c = λ p s.
    let e = ap (λ (k : Kept). k.fault) (sym c.self.view_is) ∙ ap fault_in c.in-Refused.is in
    (stuck_gives c.args.self.now c.in-Refused.fault p c.args.bytes.now (bytes_of c.args.bytes.now c.type_inv.bytes) e s).stands

pub returns-in-Refused-clause-answers : goal.returns-in-Refused-clause-answers
returns-in-Refused-clause-answers c = λ p s.
    let e = ap (λ (k : Kept). k.fault) (sym c.self.view_is) ∙ ap fault_in c.in-Refused.is in
    (stuck_gives c.args.self.now c.in-Refused.fault p c.args.bytes.now (bytes_of c.args.bytes.now c.type_inv.bytes) e s).answers

pub returns-in-Head-clause-stands : goal.returns-in-Head-clause-stands
returns-in-Head-clause-stands c = λ p s.
    let e = ap (λ (k : Kept). k.fault) (sym c.self.view_is) ∙ ap fault_in c.in-Head.is in
    let l : length c.args.self.now.head < 9 = subst (λ (k : Kept). length k.head < 9) c.self.view_is
    (subst (λ (t : Stage). IsHeadOf t c.self.inside.head.items) c.in-Head.is c.self.invariant.2) in
    (head_gives c.args.self.now p c.args.bytes.now c.take_head.result c.take_head.new.self (bytes_of c.args.bytes.now c.type_inv.bytes) e l s c.take_head.ensures).stands

pub returns-in-Head-clause-answers : goal.returns-in-Head-clause-answers
returns-in-Head-clause-answers c = λ p s.
    let e = ap (λ (k : Kept). k.fault) (sym c.self.view_is) ∙ ap fault_in c.in-Head.is in
    let l : length c.args.self.now.head < 9 = subst (λ (k : Kept). length k.head < 9) c.self.view_is
    (subst (λ (t : Stage). IsHeadOf t c.self.inside.head.items) c.in-Head.is c.self.invariant.2) in
    (head_gives c.args.self.now p c.args.bytes.now c.take_head.result c.take_head.new.self (bytes_of c.args.bytes.now c.type_inv.bytes) e l s c.take_head.ensures).answers

pub returns-in-Payload-eq0-clause-stands : goal.returns-in-Payload-eq0-clause-stands
returns-in-Payload-eq0-clause-stands c = λ p s.
    let e = ap (λ (k : Kept). k.fault) (sym c.self.view_is) ∙ ap fault_in c.in-Payload-eq0.is in
    let l : 9 ≤ length c.args.self.now.head = subst (λ (k : Kept). 9 ≤ length k.head) c.self.view_is
    (subst (λ (t : Stage). IsHeadOf t c.self.inside.head.items) c.in-Payload-eq0.is c.self.invariant.2) in
    let m = ap (λ (k : Kept). k.left) (sym c.self.view_is) ∙ ap left_in c.in-Payload-eq0.is in
    let w : c.in-Payload-eq0.field-0 ≡ 0 = search rules in
    let z : c.args.self.now.left ≡ 0 = m ∙ w in
    (last_gives c.args.self.now p c.args.bytes.now c.finish.result c.finish.new.self l z e s c.finish.ensures).stands

pub returns-in-Payload-eq0-clause-answers : goal.returns-in-Payload-eq0-clause-answers
returns-in-Payload-eq0-clause-answers c = λ p s.
    let e = ap (λ (k : Kept). k.fault) (sym c.self.view_is) ∙ ap fault_in c.in-Payload-eq0.is in
    let l : 9 ≤ length c.args.self.now.head = subst (λ (k : Kept). 9 ≤ length k.head) c.self.view_is
    (subst (λ (t : Stage). IsHeadOf t c.self.inside.head.items) c.in-Payload-eq0.is c.self.invariant.2) in
    let m = ap (λ (k : Kept). k.left) (sym c.self.view_is) ∙ ap left_in c.in-Payload-eq0.is in
    let w : c.in-Payload-eq0.field-0 ≡ 0 = search rules in
    let z : c.args.self.now.left ≡ 0 = m ∙ w in
    (last_gives c.args.self.now p c.args.bytes.now c.finish.result c.finish.new.self l z e s c.finish.ensures).answers

pub returns-in-Payload-eq0-clause-frames : goal.returns-in-Payload-eq0-clause-frames
returns-in-Payload-eq0-clause-frames c = λ p s.
    let e = ap (λ (k : Kept). k.fault) (sym c.self.view_is) ∙ ap fault_in c.in-Payload-eq0.is in
    let l : 9 ≤ length c.args.self.now.head = subst (λ (k : Kept). 9 ≤ length k.head) c.self.view_is
    (subst (λ (t : Stage). IsHeadOf t c.self.inside.head.items) c.in-Payload-eq0.is c.self.invariant.2) in
    let m = ap (λ (k : Kept). k.left) (sym c.self.view_is) ∙ ap left_in c.in-Payload-eq0.is in
    let w : c.in-Payload-eq0.field-0 ≡ 0 = search rules in
    let z : c.args.self.now.left ≡ 0 = m ∙ w in
    if_done c.finish.result (last_frame c.args.self.now p l z e s)

pub returns-in-Payload-clause-stands : goal.returns-in-Payload-clause-stands
returns-in-Payload-clause-stands c = λ p s.
    let e = ap (λ (k : Kept). k.fault) (sym c.self.view_is) ∙ ap fault_in c.in-Payload.is in
    let l : 9 ≤ length c.args.self.now.head = subst (λ (k : Kept). 9 ≤ length k.head) c.self.view_is
    (subst (λ (t : Stage). IsHeadOf t c.self.inside.head.items) c.in-Payload.is c.self.invariant.2) in
    let m = ap (λ (k : Kept). k.left) (sym c.self.view_is) ∙ ap left_in c.in-Payload.is in
    let w : 0 < c.in-Payload.left = search rules in
    let q : 0 < c.args.self.now.left = subst (λ (n : ℕ). 0 < n) (sym m) w in
    (more_gives c.args.self.now p c.args.bytes.now c.take_more.result c.take_more.new.self (bytes_of c.args.bytes.now c.type_inv.bytes) e l q s c.take_more.ensures).stands

pub returns-in-Payload-clause-answers : goal.returns-in-Payload-clause-answers
returns-in-Payload-clause-answers c = λ p s.
    let e = ap (λ (k : Kept). k.fault) (sym c.self.view_is) ∙ ap fault_in c.in-Payload.is in
    let l : 9 ≤ length c.args.self.now.head = subst (λ (k : Kept). 9 ≤ length k.head) c.self.view_is
    (subst (λ (t : Stage). IsHeadOf t c.self.inside.head.items) c.in-Payload.is c.self.invariant.2) in
    let m = ap (λ (k : Kept). k.left) (sym c.self.view_is) ∙ ap left_in c.in-Payload.is in
    let w : 0 < c.in-Payload.left = search rules in
    let q : 0 < c.args.self.now.left = subst (λ (n : ℕ). 0 < n) (sym m) w in
    (more_gives c.args.self.now p c.args.bytes.now c.take_more.result c.take_more.new.self (bytes_of c.args.bytes.now c.type_inv.bytes) e l q s c.take_more.ensures).answers

pub returns-in-Head-clause-follows : goal.returns-in-Head-clause-follows
returns-in-Head-clause-follows c =
    let m : c.args.self.now.left ≡ 0 = ap (λ (k : Kept). k.left) (sym c.self.view_is) ∙ ap left_in c.in-Head.is in
    let l : length c.args.self.now.head < 9 = subst (λ (k : Kept). length k.head < 9) c.self.view_is
    (subst (λ (t : Stage). IsHeadOf t c.self.inside.head.items) c.in-Head.is c.self.invariant.2) in
    head_follows c.args.self.now c.args.bytes.now c.take_head.result c.take_head.new.self l m c.take_head.ensures

pub returns-in-Payload-eq0-clause-follows : goal.returns-in-Payload-eq0-clause-follows
returns-in-Payload-eq0-clause-follows c =
    let l : 9 ≤ length c.args.self.now.head = subst (λ (k : Kept). 9 ≤ length k.head) c.self.view_is
    (subst (λ (t : Stage). IsHeadOf t c.self.inside.head.items) c.in-Payload-eq0.is c.self.invariant.2) in
    let m = ap (λ (k : Kept). k.left) (sym c.self.view_is) ∙ ap left_in c.in-Payload-eq0.is in
    let w : c.in-Payload-eq0.field-0 ≡ 0 = search rules in
    let z : c.args.self.now.left ≡ 0 = m ∙ w in
    last_follows c.args.self.now c.args.bytes.now c.finish.result c.finish.new.self l z c.finish.ensures

pub returns-in-Payload-clause-follows : goal.returns-in-Payload-clause-follows
returns-in-Payload-clause-follows c =
    let l : 9 ≤ length c.args.self.now.head = subst (λ (k : Kept). 9 ≤ length k.head) c.self.view_is
    (subst (λ (t : Stage). IsHeadOf t c.self.inside.head.items) c.in-Payload.is c.self.invariant.2) in
    let m = ap (λ (k : Kept). k.left) (sym c.self.view_is) ∙ ap left_in c.in-Payload.is in
    let w : 0 < c.in-Payload.left = search rules in
    let q : 0 < c.args.self.now.left = subst (λ (n : ℕ). 0 < n) (sym m) w in
    more_follows c.args.self.now c.args.bytes.now c.take_more.result c.take_more.new.self (bytes_of c.args.bytes.now c.type_inv.bytes) l q c.take_more.ensures

pub returns-in-Refused-clause-refuses : goal.returns-in-Refused-clause-refuses
returns-in-Refused-clause-refuses c = λ none.
    let e = ap (λ (k : Kept). k.fault) (sym c.self.view_is) ∙ ap fault_in c.in-Refused.is in
    stuck_refuses c.args.self.now c.args.bytes.now c.in-Refused.fault c.in-Refused.fault e none

pub returns-in-Head-clause-refuses : goal.returns-in-Head-clause-refuses
returns-in-Head-clause-refuses c =
    let l : length c.args.self.now.head < 9 = subst (λ (k : Kept). length k.head < 9) c.self.view_is
    (subst (λ (t : Stage). IsHeadOf t c.self.inside.head.items) c.in-Head.is c.self.invariant.2) in
    head_refuses c.args.self.now c.args.bytes.now c.take_head.result c.take_head.new.self l c.take_head.ensures

pub returns-in-Payload-eq0-clause-refuses : goal.returns-in-Payload-eq0-clause-refuses
returns-in-Payload-eq0-clause-refuses c =
    last_refuses c.args.self.now c.args.bytes.now c.finish.result c.finish.new.self c.finish.ensures

pub returns-in-Payload-clause-refuses : goal.returns-in-Payload-clause-refuses
returns-in-Payload-clause-refuses c =
    let l : 9 ≤ length c.args.self.now.head = subst (λ (k : Kept). 9 ≤ length k.head) c.self.view_is
    (subst (λ (t : Stage). IsHeadOf t c.self.inside.head.items) c.in-Payload.is c.self.invariant.2) in
    more_refuses c.args.self.now c.args.bytes.now c.take_more.result c.take_more.new.self l c.take_more.ensures

pub returns-in-Head-clause-offset : goal.returns-in-Head-clause-offset
returns-in-Head-clause-offset c =
    head_stays c.args.self.now c.args.bytes.now c.take_head.result c.take_head.new.self c.take_head.ensures

pub returns-in-Payload-eq0-clause-offset : goal.returns-in-Payload-eq0-clause-offset
returns-in-Payload-eq0-clause-offset c =
    last_stays c.args.self.now c.finish.result c.finish.new.self c.finish.ensures

pub returns-in-Payload-clause-offset : goal.returns-in-Payload-clause-offset
returns-in-Payload-clause-offset c =
    more_stays c.args.self.now c.args.bytes.now c.take_more.result c.take_more.new.self c.take_more.ensures
