use Rattle.json_events.proofs.texts.OrderLemmas.{text_within}
use Rattle.json_events.proofs.texts.TreeLemmas.{tree_marks, marks_tree}
use Rattle.json_events.proofs.laws.texts_have_one_tree.Goals as goal

pub returns-clause-within : goal.returns-clause-within
returns-clause-within c = text_within

pub returns-clause-marks : goal.returns-clause-marks
returns-clause-marks c = tree_marks

pub returns-clause-determined : goal.returns-clause-determined
returns-clause-determined c = marks_tree
