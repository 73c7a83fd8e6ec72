use Rattle.std.proofs.Common.{ap, ◌∙◌}
use Rattle.std.specs.Str.{bytes_eq}
use Rattle.descriptor_pool.proofs.NameLemmas.{tied_is}
use Rattle.descriptor_pool.proofs.full_name.FullName.is.Goals as goal

pub returns : goal.returns
returns c = tied_is c.args.self.now c.plain.result c.compare.result c.eq.result c.compare.ensures c.eq.ensures ∙ ap (bytes_eq c.args.self.now) c.plain.ensures
