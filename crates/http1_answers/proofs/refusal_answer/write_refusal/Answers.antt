use Rattle.std.proofs.Common.{◌≡◌, ◌++◌, List, ℕ, OnOk, sym, subst}
use Rattle.http1_answers.proofs.ToldAnswers.{told_default}
use Rattle.http1_answers.proofs.refusal_answer.write_refusal.Goals as goal

pub returns-in_default : goal.returns-in_default
returns-in_default c =
    let answer = told_default c.args.refusal c.args.close c.args.allow.now c.in_default.not-MethodNotServed in
    record {
      ok = subst
          (λ (w : List ℕ). OnOk c.write_told.result (c.write_told.new.out.items ≡ c.args.out.now.items ++ w))
          (sym answer) c.write_told.ensures.ok;
      err = c.write_told.ensures.err;
    }
