use Rattle.known_types.specs.KnownTexts.{known_text}
use Rattle.protojson_write.proofs.PartLemmas.{part_is_there, whole_is_there}
use Rattle.protojson_write.proofs.ShownLemmas.{there}
use Rattle.protojson_write.proofs.laws.values_have_texts.Goals as goal

pub returns-clause-whole : goal.returns-clause-whole
returns-clause-whole c types id v h = there _ (whole_is_there known_text types h id v)

pub returns-clause-part : goal.returns-clause-part
returns-clause-part c types id n v f h found = there _ (part_is_there known_text types h id n v f found)
