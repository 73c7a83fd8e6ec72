use Rattle.std.proofs.Common.{◌+◌, take, ap, ◌∙◌, sym}
use Rattle.std.proofs.lemmas.List.{length-take-le}
use Rattle.base.specs.Saturated.{saturated}
use Rattle.json_events.specs.ProgressSeen.{reading_of}
use Rattle.json_events.proofs.reading.RunLemmas.{passed_on, passed_readable}
use Rattle.json_events.proofs.progress.Progress.pass.Goals as goal

pub returns-in-Ok-clause-readable : goal.returns-in-Ok-clause-readable
returns-in-Ok-clause-readable c =
    let r = reading_of c.args.self.now in
    let n = c.plain_len-n.result in
    let at_is = c.saturating_add-self.ensures ∙ ap (λ k. saturated (r.at + k)) (sym (length-take-le n c.args.bytes.now c.plain_len-n.ensures.within)) in
    passed_readable r (take n c.args.bytes.now) _ _ (c.is_between_characters.ensures c.if-not-is_between_characters.false) c.requires.readable c.plain_len-n.ensures.plain c.in-Ok.ensures.items at_is

pub returns-in-Ok-clause-stands : goal.returns-in-Ok-clause-stands
returns-in-Ok-clause-stands c =
    let r = reading_of c.args.self.now in
    let n = c.plain_len-n.result in
    let at_is = c.saturating_add-self.ensures ∙ ap (λ k. saturated (r.at + k)) (sym (length-take-le n c.args.bytes.now c.plain_len-n.ensures.within)) in
    passed_on r (take n c.args.bytes.now) _ _ (c.is_between_characters.ensures c.if-not-is_between_characters.false) c.requires.readable c.plain_len-n.ensures.plain c.in-Ok.ensures.items at_is
