use Rattle.json_meanings.proofs.TextTypeLemmas.{by_fields}
use Rattle.json_meanings.proofs.laws.types_by_fields_have_no_texts.Goals as goal

pub returns : goal.returns
returns c = by_fields
