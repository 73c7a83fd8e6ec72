use Rattle.std.proofs.Common.{lit<}
use Rattle.std.proofs.lemmas.Str.Pattern.{strip_prefix_char}
use Rattle.descriptor_pool.proofs.NameLemmas.{bare_behind}
use Rattle.descriptor_pool.proofs.type_lists.bare.Goals as goal

pub returns : goal.returns
returns c = bare_behind c.args.type_name.now c.strip_prefix.result (strip_prefix_char 46 c.args.type_name.now c.strip_prefix.result c.strip_prefix.ensures.cases (lit< tt))
