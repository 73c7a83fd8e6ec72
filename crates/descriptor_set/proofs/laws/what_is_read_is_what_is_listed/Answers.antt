use Rattle.descriptor_set.proofs.ListedReads.{read_as_listed}
use Rattle.descriptor_set.proofs.laws.what_is_read_is_what_is_listed.Goals as goal

pub returns : goal.returns
returns c = read_as_listed c.decodes_without_fault.ensures c.decoded_values_are_valid.ensures
