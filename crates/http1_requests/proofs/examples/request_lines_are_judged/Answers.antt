use Rattle.std.proofs.Common.{refl}
use Rattle.http1_requests.proofs.OnExamples.{on_examples}
use Rattle.http1_requests.proofs.examples.request_lines_are_judged.Goals as goal

pub returns : goal.returns
unfolding on_examples
returns c = record {
  plain = refl;
  lower_case_method = refl;
  lower_case_head = refl;
  head_method = refl;
  connect_without_host = refl;
  old_version = refl;
  unknown_version = refl;
  two_spaces = refl;
  no_version = refl;
  blank_before_colon = refl;
  folded_field = refl;
}
