use Rattle.json_events.proofs.reading.PutLemmas.{put_open, put_whole}
use Rattle.json_events.proofs.progress.Progress.put.Goals as goal

pub returns-in-No-clause-out : goal.returns-in-No-clause-out
returns-in-No-clause-out c = λ from at. put_open _ _ _ _ _ (c.in-No.ensures.seen c.args.word.is_key c.args.self.now.held.items from at)

pub returns-in-Quiet-clause-out : goal.returns-in-Quiet-clause-out
returns-in-Quiet-clause-out c = λ from at. put_whole _ _ _ _ _ _ (c.in-Quiet.ensures.seen c.args.word.is_key c.args.self.now.held.items from at)

pub returns-in-Gives-clause-out : goal.returns-in-Gives-clause-out
returns-in-Gives-clause-out c = λ from at. put_whole _ _ _ _ _ _ (c.in-Gives.ensures.seen c.args.word.is_key c.args.self.now.held.items from at)
