use Rattle.linked_api.proofs.SmallApiFacts.{one_linked, none_linked, head_is_none, call_is_none, number_is_none, fewer_is_none, more_is_none, response_is_none, twice_is_none, names_is_none, overlapping_is_none, body_is_none, many_is_none, input_is_none, enum_name_is_none}
use Rattle.linked_api.proofs.examples.linked_examples.Goals as goal

pub returns : goal.returns
returns c = record {
  one = one_linked c.named_methods_are_kinds.ensures.get;
  none = none_linked;
  head = head_is_none;
  call = call_is_none;
  number = number_is_none;
  fewer = fewer_is_none;
  more = more_is_none;
  response = response_is_none;
  twice = twice_is_none;
  names = names_is_none;
  overlapping = overlapping_is_none;
  body = body_is_none;
  many = many_is_none;
  input = input_is_none;
  enum_name = enum_name_is_none;
}
