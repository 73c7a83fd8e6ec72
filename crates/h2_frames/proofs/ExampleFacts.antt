-- The worked examples, computed by the definitions.
use Rattle.std.proofs.Common.{refl}
use Rattle.h2_frames.specs.Http2Frame.{cut, cut_at, cut_within}
use Rattle.h2_frames.specs.FrameExamples.{SizesAreJudged, FlagsAreJudged, OrderIsJudged, ContentsLie, ListsAreCut}

-- the sizes of each type
pub sizes_are_judged : SizesAreJudged
sizes_are_judged = record {
  data_empty = refl;
  data_full = refl;
  data_long = refl;
  unknown_long = refl;
  priority_4 = refl;
  priority_5 = refl;
  priority_6 = refl;
  rst_stream_3 = refl;
  rst_stream_4 = refl;
  rst_stream_5 = refl;
  settings_0 = refl;
  settings_5 = refl;
  settings_6 = refl;
  settings_16380 = refl;
  ping_7 = refl;
  ping_8 = refl;
  ping_9 = refl;
  goaway_7 = refl;
  goaway_8 = refl;
  goaway_16384 = refl;
  window_update_3 = refl;
  window_update_4 = refl;
  window_update_5 = refl;
  unknown_0 = refl;
  window_update_of_stream = refl;
  long_head = refl;
}

-- the flags that count
pub flags_are_judged : FlagsAreJudged
flags_are_judged = record {
  acknowledgement_empty = refl;
  acknowledgement_of_settings = refl;
  acknowledged_ping = refl;
  end_stream_of_data = refl;
  padded_data_empty = refl;
  padded_data_waits = refl;
  padded_data_255 = refl;
  padded_data_256 = refl;
  headers_with_priority_4 = refl;
  headers_with_priority_5 = refl;
  padded_headers_with_priority_5 = refl;
  padded_headers_with_priority_6 = refl;
  padded_headers_with_priority_260 = refl;
  padded_headers_with_priority_261 = refl;
  priority_flag_of_data = refl;
  padded_flag_of_ping = refl;
  other_flags = refl;
  padded_headers_empty = refl;
  padded_headers_255 = refl;
  padded_headers_256 = refl;
  padding_of_all = refl;
  padding_past_all = refl;
  padding_behind_priority = refl;
  padding_past_priority = refl;
}

-- order and streams
pub order_is_judged : OrderIsJudged
order_is_judged = record {
  first_settings = refl;
  first_acknowledgement = refl;
  first_ping = refl;
  continuation = refl;
  continuation_elsewhere = refl;
  other_in_block = refl;
  unknown_in_block = refl;
  continuation_alone = refl;
  data_of_connection = refl;
  headers_of_connection = refl;
  settings_of_stream = refl;
  ping_of_stream = refl;
  goaway_of_stream = refl;
  push_promise = refl;
  long_first_ping = refl;
  long_in_block = refl;
  short_settings_of_stream = refl;
  first_settings_of_6 = refl;
  acknowledged_first_settings_of_6 = refl;
  continuation_with_flags = refl;
  ping_in_block = refl;
  priority_of_connection = refl;
  rst_stream_of_connection = refl;
  long_data_of_connection = refl;
  reserved_bit = refl;
  reserved_bit_of_connection = refl;
}

-- where the content lies
pub contents_lie : ContentsLie
contents_lie = record {
  plain = refl;
  padded = refl;
  all_padding = refl;
  priority = refl;
  padded_priority = refl;
  continuation = refl;
  no_data = refl;
}

-- lists of bytes
pub lists_are_cut : ListsAreCut
unfolding cut cut_at cut_within
lists_are_cut = record {
  frames = refl;
  fine = refl;
  fault = refl;
  ended_block = refl;
}
