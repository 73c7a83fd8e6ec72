use Rattle.std.proofs.Common.{refl}
use Rattle.httparse.specs.Grammar.{is_token_byte}
use Rattle.http_rules.proofs.laws.named_methods_are_kinds.Goals as goal

pub returns : goal.returns
unfolding is_token_byte
returns c = record { get = refl; put = refl; post = refl; delete = refl; patch = refl }
