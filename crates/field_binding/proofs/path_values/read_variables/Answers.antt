use Rattle.std.proofs.lemmas.Result.{err_from_is_err_and}
use Rattle.field_binding.proofs.ReadingLemmas.{failing, longer, next_set}
use Rattle.field_binding.proofs.path_values.read_variables.Goals as goal

pub returns-in_err-setting : goal.returns-in_err-setting
returns-in_err-setting c =
    let p = err_from_is_err_and c.from_residual.result c.from_residual.ensures.1 in
    rw (p.1, p.2)
    (failing c.args.types.now c.args.input c.args.binding.now c.args.path.now c.args.captures.now
    c.loop-index.settings c.loop-index.index _ c.loop-index.invariant.grown c.loop-index.invariant.each
    c.in_err-setting.ensures)

pub loop-index-preserved : goal.loop-index-preserved
loop-index-preserved c = record {
  grown = longer c.loop-index.settings c.push.new.self _ _ c.in_ok-push.ensures.ok c.loop-index.invariant.grown;
  each =
      next_set c.args.types.now c.args.input c.args.binding.now c.args.path.now c.args.captures.now
      c.loop-index.settings c.push.new.self _ c.loop-index.index c.in_ok-push.ensures.ok
      c.loop-index.invariant.grown c.loop-index.invariant.each c.in_ok-setting.ensures;
}
