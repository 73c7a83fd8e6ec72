use Rattle.std.proofs.Common.{refl}
use Rattle.json_meanings.proofs.examples.depth_meanings.Goals as goal

pub returns : goal.returns
returns c = record { entry = refl; entry_of_messages = refl; item_of_messages = refl; message = refl }
