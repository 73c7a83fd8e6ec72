use Rattle.std.proofs.Common.{refl}
use Rattle.field_binding.proofs.ExampleFacts.{deep_refused, enum_name_set, enum_number_set, escaped_set, first_refused, inner_set, largest_set, name_set, number_set, one_segment_set, past_refused, second_fails, second_not_told, several_set, shallow_set}
use Rattle.field_binding.proofs.examples.path_binding_examples.Goals as goal

pub returns : goal.returns
returns c = record {
  name = name_set;
  inner = inner_set;
  number = number_set;
  enum_name = enum_name_set;
  enum_number = enum_number_set;
  one_segment = one_segment_set;
  several = several_set;
  escaped = escaped_set;
  largest = largest_set;
  past = past_refused;
  first = first_refused;
  second = second_fails;
  not_second = λ h.
      second_not_told _ _
      (c.one_path_binding.ensures _ _ _ _ _ _ first_refused h (λ e. cc e) (λ e. cc e)) refl refl;
  shallow = shallow_set;
  deep = deep_refused;
}
