-- Behind the last piece all is written.
use Rattle.std.proofs.Common.{◌≡◌, ◌++◌, List, ℕ, [], sym, ap, ◌∙◌, arith, append-nil, rules}
use Rattle.percent_encoding.specs.Iter.{encoded_text}
use Rattle.status_map.proofs.EscapeLemmas.{percent_encode_is}
use Rattle.status_map.proofs.grpc_message.write_message.Goals as goal

pub returns-clause-ok : goal.returns-clause-ok
returns-clause-ok c =
    let left : encoded_text c.loop-piece.piece-iterator ≡ [] = search rules in
    sym (append-nil _) ∙ rw left at c.loop-piece.invariant.written
    ∙ ap (λ (xs : List ℕ). c.args.out.now.items ++ xs) (percent_encode_is c.args.text.now (λ i. omega (arith, c.type_inv.text i)))
