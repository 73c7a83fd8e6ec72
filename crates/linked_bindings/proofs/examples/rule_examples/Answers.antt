use Rattle.std.proofs.Common.{[], ◌∷◌, codes}
use Rattle.linked_bindings.specs.RuleExamples.{patch_book, put_book, template_with}
use Rattle.linked_bindings.proofs.RuleFacts.{faults_are, linked_are}
use Rattle.linked_bindings.proofs.examples.rule_examples.Goals as goal

pub returns : goal.returns
returns c = record {
  linked =
      linked_are patch_book 3 (codes "PATCH") (codes "book") (codes "title")
      (template_with ((codes "book" ∷ codes "name" ∷ []) ∷ []));
  faultless = faults_are patch_book ((codes "book" ∷ codes "name" ∷ []) ∷ []) (codes "book") (codes "title");
  two = faults_are patch_book ((codes "book" ∷ codes "name" ∷ []) ∷ (codes "book" ∷ codes "title" ∷ []) ∷ []) (codes "*") [];
  nothing = faults_are patch_book [] [] [];
  list_and_map = faults_are put_book [] (codes "marks") (codes "stock");
  list_and_map_linked = linked_are put_book 4 (codes "PUT") (codes "marks") (codes "stock") (template_with []);
  listed = faults_are patch_book ((codes "book" ∷ codes "marks" ∷ []) ∷ []) [] [];
  mapped = faults_are patch_book ((codes "book" ∷ codes "stock" ∷ []) ∷ []) [] [];
  plain = faults_are patch_book ((codes "book" ∷ []) ∷ []) [] [];
  behind = faults_are patch_book ((codes "book" ∷ codes "made" ∷ codes "seconds" ∷ []) ∷ []) [] [];
  equal = faults_are patch_book ((codes "book" ∷ codes "name" ∷ []) ∷ (codes "book" ∷ codes "name" ∷ []) ∷ []) [] [];
  begins = faults_are patch_book ((codes "book" ∷ codes "name" ∷ []) ∷ (codes "book" ∷ []) ∷ []) [] [];
  json = faults_are patch_book [] (codes "updateMask") [];
  dotted = faults_are patch_book [] (codes "book.name") [];
  answered = faults_are patch_book [] (codes "title") [];
  asked = faults_are patch_book [] [] (codes "book");
  whole = faults_are patch_book [] [] (codes "*");
  all = faults_are patch_book ((codes "x" ∷ []) ∷ []) (codes "y") (codes "z");
}
