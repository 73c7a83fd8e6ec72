-- Where the field of an index stands in two lists, one behind the other.
use Rattle.std.proofs.Common.{◌≡◌, ◌+◌, ◌-◌, ◌≤◌, ◌<◌, ◌++◌, ◌==◌, ℕ, Bool, true, false, List, [], length, get_or, Option, Some, None, if◌then◌else◌, refl, ap, sym, subst, ◌∙◌, arith, length-append}
use Rattle.std.specs.Prelude.{slice_get}
use Rattle.std.specs.Option.{IsSomeAnd}
use Rattle.std.proofs.lemmas.Bool.Decides.{nat_tests}
use Rattle.std.proofs.lemmas.List.{get_or_append_left, get_or-append_right}
use Rattle.std.proofs.lemmas.Option.{slice_get-get_or, slice_get_past}
use Rattle.hpack_codec.specs.StaticTable.{HeaderField}

-- what is some meets what holds of it
pub some_and : {X : Type 0} (P : X → Type 0) (o : Option X) (x : X) → o ≡ Some x → P x → IsSomeAnd o P
some_and {X = X} P o x e p = subst (λ (y : Option X). IsSomeAnd y P) (sym e) p

module _ (first second : List HeaderField) (index : ℕ) where
  at_index : (test : Bool) (o : Option HeaderField) → (index == 0) ≡ test → 0 < index → (if test then None else o) ≡ o
  at_index true o e h = absurd (grind (arith, nat_tests))
  at_index false o e h = refl

  at_zero : (test : Bool) (o : Option HeaderField) → (index == 0) ≡ test → index ≡ 0 → (if test then None else o) ≡ None
  at_zero true o e h = refl
  at_zero false o e h = absurd (grind (arith, nat_tests))

  -- the field of the index in both lists, counted from 1
  abbrev pub found : Option HeaderField
  found = if index == 0 then None else slice_get (first ++ second) (index - 1)

  pub in_first : (i : ℕ) → index - 1 ≡ i → 0 < index → i < length first → found ≡ Some (get_or first i ([], []))
  in_first i e p h =
      let within : index - 1 < length (first ++ second) = rw length-append (omega arith) in
      at_index (index == 0) (slice_get (first ++ second) (index - 1)) refl p
      ∙ (slice_get-get_or (first ++ second) (index - 1) ([], []) within
      ∙ (ap (λ (k : ℕ). Some (get_or (first ++ second) k ([], []))) e ∙ ap (λ (f : HeaderField). Some f) (get_or_append_left first second ([], []) i h)))

  pub in_second : (i : ℕ) → index - 1 ≡ length first + i → 0 < index → i < length second → found ≡ Some (get_or second i ([], []))
  in_second i e p h =
      let within : index - 1 < length (first ++ second) = rw length-append (omega arith) in
      let n : (index - 1) - length first ≡ i = omega arith in
      at_index (index == 0) (slice_get (first ++ second) (index - 1)) refl p
      ∙ (slice_get-get_or (first ++ second) (index - 1) ([], []) within
      ∙ (ap (λ (f : HeaderField). Some f) (get_or-append_right first second (length first) (index - 1) ([], []) refl (omega arith))
      ∙ ap (λ (k : ℕ). Some (get_or second k ([], []))) n))

  pub at_none : index ≡ 0 → found ≡ None
  at_none h = at_zero (index == 0) (slice_get (first ++ second) (index - 1)) refl h

  pub past_both : length first + length second ≤ index - 1 → 0 < index → found ≡ None
  past_both h p =
      let past : length (first ++ second) ≤ index - 1 = rw length-append (omega arith) in
      at_index (index == 0) (slice_get (first ++ second) (index - 1)) refl p ∙ slice_get_past (first ++ second) (index - 1) past
