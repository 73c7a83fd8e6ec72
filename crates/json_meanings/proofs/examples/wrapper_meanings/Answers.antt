use Rattle.std.proofs.Common.{refl}
use Rattle.json_meanings.proofs.examples.wrapper_meanings.Goals as goal

pub returns : goal.returns
returns c = record {
  wrapped = refl;
  wrapped_default = refl;
  unset = refl;
  whole = refl;
  in_a_list = refl;
  whole_is_null = refl;
  null_in_a_list = refl;
  object_is_none = refl;
  truth_is_none = refl;
  half_is_none = refl;
}
