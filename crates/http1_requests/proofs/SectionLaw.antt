-- A guessed section is the one that the grammar prints.
use Rattle.std.proofs.Common.{◌≡◌, ℕ, Bool, true, false, ◌&&◌, List, [], ◌++◌, length, refl, sym, ap, ◌∙◌, subst, Option, Some, None, append-nil, if◌then◌else◌, bytes_eq}
use Rattle.std.specs.List.{list_all}
use Rattle.std.proofs.lemmas.List.Sums.{AllPass-from_list_all, list_all-from_AllPass}
use Rattle.std.proofs.lemmas.Bool.{and_from, and_parts}
use Rattle.std.proofs.lemmas.Slice.Eq.{bytes_eq-Decides}
use Rattle.httparse.specs.Grammar.{LineEnd, Field, print_section, ReadsSection}
use Rattle.http1_requests.specs.GrammarReading.{end_of, fields_within, behind_fields, is_field, checked_section, section_in}
use Rattle.http1_requests.proofs.GrammarLaw.{fields_at, fields_length, end_of_print_end, test_from_field, field_from_test}

-- a section of the grammar is found
pub section_read : (bytes : List ℕ) (fields : List Field) (last : LineEnd) → ReadsSection bytes fields last []
    → section_in bytes ≡ Some fields
unfolding section_in
section_read bytes fields last x =
    let S = print_section fields last ++ [] in
    let read = fields_at (length S) fields last [] x.0 (fields_length fields last []) in
    let whole : checked_section S (fields_within (length S) S)
    (end_of (behind_fields (length S) S)) ≡ checked_section S fields last =
    rw (read.0, read.1, end_of_print_end last []) refl in
    subst (λ (b : List ℕ). checked_section b (fields_within (length b) b)
    (end_of (behind_fields (length b) b)) ≡ Some fields) (sym x.1)
    (whole ∙ ap (λ (t : Bool). if t then Some fields else None)
    (and_from _ _ (list_all-from_AllPass is_field fields (λ k d l. test_from_field _ (x.0 k d l)))
    ((bytes_eq-Decides (print_section fields last) S).1 (sym (append-nil (print_section fields last))))))

some_same : (f g : List Field) → ◌≡◌ {A = Option (List Field)} (Some f) (Some g) → f ≡ g
some_same f g e = cc

-- a section that is found is one of the grammar
pub section_reads : (bytes : List ℕ) (fields : List Field) → section_in bytes ≡ Some fields → (last : LineEnd)
    × ReadsSection bytes fields last []
unfolding section_in
section_reads bytes fields e = by (fields_within (length bytes) bytes) (end_of (behind_fields (length bytes) bytes)) e
  where
    by : (fs : List Field) (last : LineEnd) → checked_section bytes fs last ≡ Some fields → (l : LineEnd)
        × ReadsSection bytes fields l []
    by fs last x = two (list_all is_field fs && bytes_eq (print_section fs last) bytes) refl x
      where
        two : (t : Bool) → (list_all is_field fs && bytes_eq (print_section fs last) bytes) ≡ t
            → (if t then Some fs else None) ≡ Some fields → (l : LineEnd) × ReadsSection bytes fields l []
        two true both y =
            let parts = and_parts _ _ both in
            subst (λ (g : List Field). (l : LineEnd) × ReadsSection bytes g l []) (some_same fs fields y) (
              last,
              (
                (λ k d l. field_from_test _ (AllPass-from_list_all is_field fs parts.0 k d l)),
                sym
                    ((bytes_eq-Decides (print_section fs last) bytes).0 parts.1)
                    ∙ sym (append-nil (print_section fs last)),
              ),
            )
        two false both y = absurd (cc)
