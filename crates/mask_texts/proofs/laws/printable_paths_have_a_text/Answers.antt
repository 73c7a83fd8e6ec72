use Rattle.mask_texts.proofs.PrintableLemmas.{printable_text, text_printable}
use Rattle.mask_texts.proofs.laws.printable_paths_have_a_text.Goals as goal

pub returns : goal.returns
returns c paths = (text_printable paths, printable_text paths)
