-- Each call gives what the definition says of the whole stream.
use Rattle.std.proofs.Common.{sym, ap, ◌∙◌}
use Rattle.grpc_frames.specs.Deframer.{DeframerState}
use Rattle.grpc_frames.proofs.FeedLemmas.{step_gives, stuck_step}
use Rattle.grpc_frames.proofs.deframer.Deframer.feed.Goals as goal

pub returns-in-Some-clause-stands : goal.returns-in-Some-clause-stands
returns-in-Some-clause-stands c = λ r s. (stuck_step c.args.self.now r c.args.bytes.now c.in-Some.fault (ap (λ (k : DeframerState). k.refused) (sym c.self.view_is) ∙ c.in-Some.is) s).stands

pub returns-in-Some-clause-answers : goal.returns-in-Some-clause-answers
returns-in-Some-clause-answers c = λ r s. (stuck_step c.args.self.now r c.args.bytes.now c.in-Some.fault (ap (λ (k : DeframerState). k.refused) (sym c.self.view_is) ∙ c.in-Some.is) s).answers

pub returns-in-None-clause-stands : goal.returns-in-None-clause-stands
returns-in-None-clause-stands c = λ r s. (step_gives c.args.self.now r c.args.bytes.now c.step.result c.step.new.self (ap (λ (k : DeframerState). k.refused) (sym c.self.view_is) ∙ c.in-None.is) c.step.ensures.step s).stands

pub returns-in-None-clause-answers : goal.returns-in-None-clause-answers
returns-in-None-clause-answers c = λ r s. (step_gives c.args.self.now r c.args.bytes.now c.step.result c.step.new.self (ap (λ (k : DeframerState). k.refused) (sym c.self.view_is) ∙ c.in-None.is) c.step.ensures.step s).answers
