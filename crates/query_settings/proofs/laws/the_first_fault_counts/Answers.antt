use Rattle.query_settings.proofs.OneReading.{first_fault}
use Rattle.query_settings.specs.QuerySettings.{counted}
use Rattle.query_settings.proofs.laws.the_first_fault_counts.Goals as goal

pub returns : goal.returns
returns c s ignore query n k h = first_fault s n k (counted ignore query) h
