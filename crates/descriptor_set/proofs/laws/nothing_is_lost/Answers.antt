use Rattle.descriptor_set.proofs.WholeSets.{levels_kept, numbers_kept}
use Rattle.descriptor_set.proofs.laws.nothing_is_lost.Goals as goal

pub returns-clause-levels : goal.returns-clause-levels
returns-clause-levels c = levels_kept c.decodes_without_fault.ensures c.decoded_values_are_valid.ensures

pub returns-clause-numbers : goal.returns-clause-numbers
returns-clause-numbers c = numbers_kept
