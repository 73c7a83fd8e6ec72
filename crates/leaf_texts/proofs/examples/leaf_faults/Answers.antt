use Rattle.leaf_texts.proofs.examples.leaf_faults.Goals as goal

pub returns : goal.returns
returns c =
    let n = c.number_examples.ensures in
    let o = c.other_kind_examples.ensures in
    let k = c.known_readings.ensures.faults in
    record {
      capital = o.capital;
      fraction = n.one_and_a_half;
      past = n.past_int32;
      no_value = o.no_value;
      lone_byte = o.lone_byte;
      wrapped_fraction = n.one_and_a_half;
      wrapped_byte = o.lone_byte;
      second_60 = k.second_60;
      year_0000 = k.year_0000;
      far = k.far;
      minutes = k.minutes;
      underscore = k.underscore;
      plain = k.plain;
    }
