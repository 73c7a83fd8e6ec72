use Rattle.scalar_texts.proofs.ReadingLemmas.{one_layer, layer_fault, one_fault}
use Rattle.scalar_texts.proofs.laws.items_and_faults_are_apart.Goals as goal

pub returns : goal.returns
returns c =
    let one = c.texts_mean_one_value.ensures.numbers in
    let spelled = c.one_meaning_of_a_text.ensures in
    record {
      item = one_layer one spelled;
      apart = layer_fault one spelled;
      fault = λ types scalar text f g h k. one_fault one spelled types scalar text f g h k;
    }
