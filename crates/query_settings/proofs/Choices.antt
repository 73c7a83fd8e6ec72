-- What is chosen of oneofs: by several ways, and by one way step by step.
use Rattle.std.proofs.Common.{◌≡◌, ◌∙◌, ◌<◌, ◌≤◌, ◌==◌, ◌&&◌, ◌||◌, ◌+◌, ◌++◌, ℕ, Bool, true, false, cond, not, List, [], ◌∷◌, length, get_or, drop, Option, Some, None, append_assoc, length-append, arith, refl, sym, ap, subst}
use Rattle.std.proofs.lemmas.Bool.{eqb-true, false_from_ne_true}
use Rattle.std.proofs.lemmas.List.{drop_more}
use Rattle.std.proofs.lemmas.List.Folds.{list_any-append}
use Rattle.std.proofs.lemmas.Slice.Eq.{bytes_eq-Decides}
use Rattle.std.specs.BTreeMap as tree
use Rattle.std.specs.List.{AllByRecursion, list_any}
use Rattle.std.specs.Str.{bytes_eq}
use Rattle.std.specs.declared.alloc.Global.{Global}
use Rattle.std.specs.declared.vec.Vec.{Vec}
use Rattle.base.proofs.TextLemmas.{bytes_eq_swap}
use Rattle.query_settings.proofs.NumberMaps.{number_put, vec_cmp}
use Rattle.query_settings.specs.ParameterFaults.{chooses_other}
use Rattle.query_settings.specs.QuerySettings.{Assignment}
use Rattle.query_settings.specs.QuerySteps.{AreMembers, NumberMap, choices_made, is_another, number_at}
use Rattle.query_settings.specs.QueryTargets.{Choice, choice_at, choices_from, choices_of, is_other}
use Rattle.query_settings.specs.declared.targets.Step.{Step}

or_false : (t : Bool) → (t || false) ≡ t
or_false true = refl
or_false false = refl

-- ---- one choice more

-- a member beside another, where a third was chosen before or none
beside : (t u : Bool) → (t ≡ false) → (t || ((true && u) || false)) ≡ u
beside true u h = absurd (cc h)
beside false true h = refl
beside false false h = refl

again : (t : Bool) → (t || ((true && t) || false)) ≡ t
again true = refl
again false = refl

not_false : (t : Bool) → not t ≡ false → t ≡ true
not_false true h = refl
not_false false h = absurd (cc h)

at_place : (o : Option ℕ) (a b : ℕ) → is_another b o ≡ false
    → (is_another a o || ((true && not (a == b)) || false)) ≡ not (a == b)
at_place None a b h = beside false (not (a == b)) refl
at_place (Some k) a b h =
    let same : b ≡ k = eqb-true b k (not_false (b == k) h) in
    subst (λ z. (not (a == z) || ((true && not (a == b)) || false)) ≡ not (a == b)) same (again (not (a == b)))

elsewhere : (t u : Bool) → (t || ((false && u) || false)) ≡ t
elsewhere true u = refl
elsewhere false u = refl

-- a map into which a choice was put tells it with those that came before, where none of these is of another member
pub one_more : (m n : NumberMap) (key : Vec ℕ Global) (d : Choice) → key.items ≡ d.place
    → tree.Updates vec_cmp m n key (Some d.member) → (chosen : List Choice) → AreMembers m chosen
    → list_any (is_other d) chosen ≡ false → AreMembers n (chosen ++ d ∷ [])
one_more m n key d same put chosen held none c =
    list_any-append (is_other c) chosen (d ∷ []) ∙ ap (λ t. t || (is_other c d || false)) (held c)
    ∙ by_test (bytes_eq d.place c.place) refl ∙ ap (is_another c.member) (sym told)
  where
    told : number_at n c.place ≡ cond (bytes_eq d.place c.place) (Some d.member) (number_at m c.place)
    told =
        number_put m n key d.member put c.place
        ∙ ap (λ z. cond (bytes_eq z c.place) (Some d.member) (number_at m c.place)) same

    by_test : (t : Bool) → bytes_eq d.place c.place ≡ t
        → (is_another c.member (number_at m c.place) || (is_other c d || false))
        ≡ is_another c.member (cond t (Some d.member) (number_at m c.place))
    by_test true e =
        let place : d.place ≡ c.place = (bytes_eq-Decides d.place c.place).0 e in
        ap (λ t. is_another c.member (number_at m c.place) || ((t && not (c.member == d.member)) || false))
        (bytes_eq_swap c.place d.place ∙ e)
        ∙ at_place (number_at m c.place) c.member d.member
        (ap (λ z. is_another d.member (number_at m z)) (sym place) ∙ sym (held d) ∙ none)
    by_test false e =
        ap (λ t. is_another c.member (number_at m c.place) || ((t && not (c.member == d.member)) || false))
        (bytes_eq_swap c.place d.place ∙ e)
        ∙ elsewhere (is_another c.member (number_at m c.place)) (not (c.member == d.member))

-- ---- the choices of one way

-- oneofs that stand at ways of so many numbers at most
abbrev pub AreShort : ℕ → List Choice → Type 0
AreShort k cs = AllByRecursion (λ (c : Choice). length c.place ≤ k) cs

not_same : (a b : List ℕ) → length b < length a → bytes_eq a b ≡ false
not_same a b lt =
    false_from_ne_true (bytes_eq a b)
    (λ t. let e : length a ≡ length b = ap length ((bytes_eq-Decides a b).0 t) in omega (arith, e))

none_short : (c : Choice) (k : ℕ) (cs : List Choice) → AreShort k cs → k < length c.place
    → list_any (is_other c) cs ≡ false
none_short c k [] h lt = refl
none_short c k (d ∷ cs) h lt =
    let le : length d.place ≤ k = h.0 in
    ap (λ t. (t && not (c.member == d.member)) || list_any (is_other c) cs) (not_same c.place d.place (omega arith))
    ∙ none_short c k cs h.1 lt

short_more : (k j : ℕ) (cs : List Choice) → k ≤ j → AreShort k cs → AreShort j cs
short_more k j [] le h = tt
short_more k j (c ∷ cs) le h = (let a = h.0 in omega arith, short_more k j cs le h.1)

short_both : (k : ℕ) (xs ys : List Choice) → AreShort k xs → AreShort k ys → AreShort k (xs ++ ys)
short_both k [] ys h g = g
short_both k (x ∷ xs) ys h g = (h.0, short_both k xs ys h.1 g)

short_choice : (way : List ℕ) (n : ℕ) (o : Option ℕ) → AreShort (length (way ++ n ∷ [])) (choice_at way n o)
short_choice way n None = tt
short_choice way n (Some oneof) = (let e = length-append way (n ∷ []) in omega (arith, e), tt)

or_left : (s t : Bool) → (s || t) ≡ false → s ≡ false
or_left true t h = absurd (cc h)
or_left false t h = refl

or_right : (s t : Bool) → (s || t) ≡ false → t ≡ false
or_right true t h = absurd (cc h)
or_right false t h = h

both_false : (s t : Bool) → s ≡ false → t ≡ false → (s || t) ≡ false
both_false true t e f = absurd (cc e)
both_false false t e f = f

-- what has come of the first steps of a way: a map tells what was chosen before and what they choose
pub record ChosenSoFar (m : NumberMap) (chosen : List Choice) (way : List ℕ) (steps left : List Step) : Type 0 where
  pub so_far : List Choice
  pub members : AreMembers m (chosen ++ so_far)
  pub rest : so_far ++ choices_from way left ≡ choices_from [] steps
  pub short : AreShort (length way) so_far

-- a map holds what these steps choose behind a way
abbrev pub Chooses : NumberMap → NumberMap → List ℕ → List Step → List Step → Type 0
Chooses old m way steps left =
    (chosen : List Choice) → AreMembers old chosen → chooses_other chosen (choices_from [] steps) ≡ false
    → ChosenSoFar m chosen way steps left

append_nil : {X : Type 0} (xs : List X) → xs ++ [] ≡ xs
append_nil [] = refl
append_nil (x ∷ xs) = ap (λ z. x ∷ z) (append_nil xs)

-- nothing of a way has come
pub none_chosen : (m : NumberMap) (steps : List Step) → Chooses m m [] steps steps
none_chosen m steps chosen held free = record {
  so_far = [];
  members = subst (AreMembers m) (sym (append_nil chosen)) held;
  rest = refl;
  short = tt;
}

-- one step more
pub step_chosen : (old m n : NumberMap) (way : List ℕ) (steps left : List Step) (s : Step)
    → Chooses old m way steps (s ∷ left)
    → ((chosen : List Choice) → AreMembers m chosen → chooses_other chosen (choice_at way s.number s.oneof) ≡ false
    → AreMembers n (chosen ++ choice_at way s.number s.oneof))
    → Chooses old n (way ++ s.number ∷ []) steps left
step_chosen old m n way steps left s before put chosen held free = record {
  so_far = so_far ++ own;
  members = subst (AreMembers n) (append_assoc chosen so_far own) (put (chosen ++ so_far) came.members free_now);
  rest = append_assoc so_far own (choices_from (way ++ s.number ∷ []) left) ∙ came.rest;
  short =
      short_both (length (way ++ s.number ∷ [])) so_far own
      (short_more (length way) (length (way ++ s.number ∷ [])) so_far
      (let e = length-append way (s.number ∷ []) in omega (arith, e)) came.short)
      (short_choice way s.number s.oneof);
}
  where
    came : ChosenSoFar m chosen way steps (s ∷ left)
    came = before chosen held free

    so_far : List Choice
    so_far = came.so_far

    own : List Choice
    own = choice_at way s.number s.oneof

    free_own : chooses_other chosen own ≡ false
    free_own =
        let whole : chooses_other chosen (so_far ++ (own ++ choices_from (way ++ s.number ∷ []) left)) ≡ false =
        ap (chooses_other chosen) came.rest ∙ free in
        let behind : chooses_other chosen (own ++ choices_from (way ++ s.number ∷ []) left) ≡ false =
        or_right (chooses_other chosen so_far) (chooses_other chosen (own ++ choices_from (way ++ s.number ∷ []) left))
        (sym (list_any-append (λ c. list_any (is_other c) chosen) so_far
        (own ++ choices_from (way ++ s.number ∷ []) left)) ∙ whole) in
        or_left (chooses_other chosen own) (chooses_other chosen (choices_from (way ++ s.number ∷ []) left))
        (sym (list_any-append (λ c. list_any (is_other c) chosen) own (choices_from (way ++ s.number ∷ []) left))
        ∙ behind)

    free_now : chooses_other (chosen ++ so_far) own ≡ false
    free_now = pick s.oneof free_own
      where
        pick : (o : Option ℕ) → chooses_other chosen (choice_at way s.number o) ≡ false
            → chooses_other (chosen ++ so_far) (choice_at way s.number o) ≡ false
        pick None h = refl
        pick (Some oneof) h =
            let d : Choice = record { place = oneof ∷ way; member = s.number } in
            or_false (list_any (is_other d) (chosen ++ so_far))
            ∙ list_any-append (is_other d) chosen so_far
            ∙ both_false (list_any (is_other d) chosen) (list_any (is_other d) so_far)
            (or_left (list_any (is_other d) chosen) false h)
            (none_short d (length way) so_far came.short
            (let lt : length way < length (oneof ∷ way) = omega arith in lt))

-- all steps
pub all_chosen : (old m : NumberMap) (way : List ℕ) (steps : List Step) → Chooses old m way steps []
    → (chosen : List Choice) → AreMembers old chosen → chooses_other chosen (choices_from [] steps) ≡ false
    → AreMembers m (chosen ++ choices_from [] steps)
all_chosen old m way steps came chosen held free =
    let now = came chosen held free in
    subst (λ cs. AreMembers m (chosen ++ cs)) (sym (append_nil now.so_far) ∙ now.rest) now.members

-- ---- what steps choose of oneofs of which another member was chosen

-- by the first step and those that are left
pub chooses_head : (chosen : List Choice) (way : List ℕ) (s : Step) (left : List Step)
    → chooses_other chosen (choices_from way (s ∷ left))
    ≡ (chooses_other chosen (choice_at way s.number s.oneof)
    || chooses_other chosen (choices_from (way ++ s.number ∷ []) left))
chooses_head chosen way s left =
    list_any-append (λ c. list_any (is_other c) chosen) (choice_at way s.number s.oneof)
    (choices_from (way ++ s.number ∷ []) left)

-- ---- a step's choice is put into a map

-- of a map with one key more
pub step_put : (m n : NumberMap) (key : Vec ℕ Global) (way : List ℕ) (number oneof : ℕ) (o : Option ℕ)
    → o ≡ Some oneof → key.items ≡ oneof ∷ way → tree.Updates vec_cmp m n key (Some number)
    → (chosen : List Choice) → AreMembers m chosen → chooses_other chosen (choice_at way number o) ≡ false
    → AreMembers n (chosen ++ choice_at way number o)
step_put m n key way number oneof o is place put chosen held free =
    let d : Choice = record { place = oneof ∷ way; member = number } in
    subst (λ x. AreMembers n (chosen ++ choice_at way number x)) (sym is)
    (one_more m n key d place put chosen held
    (or_left (list_any (is_other d) chosen) false
    (ap (λ x. chooses_other chosen (choice_at way number x)) (sym is) ∙ free)))

-- ---- one step more in a loop

module _ (steps : List Step) (i : ℕ) (s : Step) (at : drop i steps ≡ s ∷ drop (i + 1) steps)
    (way slice new : List ℕ) (same : slice ≡ way) (more : new ≡ way ++ s.number ∷ []) where
  -- behind a step that chooses no other member
  pub other_kept : (chosen : List Choice) (t : Bool) → t ≡ chooses_other chosen (choice_at slice s.number s.oneof)
      → t ≡ false
      → chooses_other chosen (choices_from new (drop (i + 1) steps))
      ≡ chooses_other chosen (choices_from way (drop i steps))
  other_kept chosen t told free =
      ap (λ w. chooses_other chosen (choices_from w (drop (i + 1) steps))) more
      ∙ sym (ap (λ u. u || chooses_other chosen (choices_from (way ++ s.number ∷ []) (drop (i + 1) steps)))
      (ap (λ w. chooses_other chosen (choice_at w s.number s.oneof)) (sym same) ∙ sym told ∙ free))
      ∙ sym (chooses_head chosen way s (drop (i + 1) steps))
      ∙ ap (λ l. chooses_other chosen (choices_from way l)) (sym at)

  -- behind a step whose choice was kept
  pub chosen_on : (old m n : NumberMap) → Chooses old m way steps (drop i steps)
      → ((chosen : List Choice) → AreMembers m chosen
      → chooses_other chosen (choice_at slice s.number s.oneof) ≡ false
      → AreMembers n (chosen ++ choice_at slice s.number s.oneof))
      → Chooses old n new steps (drop (i + 1) steps)
  chosen_on old m n before put =
      subst (λ w. Chooses old n w steps (drop (i + 1) steps)) (sym more)
      (step_chosen old m n way steps (drop (i + 1) steps) s (subst (Chooses old m way steps) at before)
      (subst (λ w. (chosen : List Choice) → AreMembers m chosen
      → chooses_other chosen (choice_at w s.number s.oneof) ≡ false
      → AreMembers n (chosen ++ choice_at w s.number s.oneof)) same put))

-- what one assignment more chooses
pub choices_more : (made : List Assignment) (a : Assignment)
    → choices_made (made ++ a ∷ []) ≡ choices_made made ++ choices_of a.target
choices_more [] a = append_nil (choices_of a.target)
choices_more (b ∷ made) a =
    ap (λ cs. choices_of b.target ++ cs) (choices_more made a)
    ∙ sym (append_assoc (choices_of b.target) (choices_made made) (choices_of a.target))
