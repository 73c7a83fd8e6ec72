use Rattle.protojson_write.specs.ShownMeans.{shown_part}
use Rattle.json_round_trip.proofs.laws.what_is_shown_is_read_again.Goals as goal

pub returns : goal.returns
returns c types id part v text place r sound names showable shown answer =
    (answer.value (shown_part part v)).1
    (c.shown_texts_mean_their_values.ensures.means types id part v text sound names showable shown)
