-- The faults of fields, one after another.
use Rattle.std.proofs.Common.{◌≡◌, ◌<◌, ◌||◌, ◌+◌, ℕ, ℤ, Bool, true, false, List, [], ◌∷◌, ◌++◌, length, map, drop, take, get_or, refl, sym, ap, ◌∙◌, subst}
use Rattle.std.proofs.Math.Bool.{or-false}
use Rattle.std.proofs.lemmas.List.{drop_more, map_more, take_more, append-nil, append_assoc}
use Rattle.std.proofs.lemmas.List.Concat.{flat_map-append}
use Rattle.std.proofs.lemmas.List.Folds.{list_any-append}
use Rattle.std.specs.BTreeSet as sorted
use Rattle.std.specs.BTreeSet.{BTreeSet}
use Rattle.std.specs.List.{flat_map, list_any}
use Rattle.std.specs.Ordering.{int_cmp, int_eq}
use Rattle.std.specs.Str.{bytes_eq}
use Rattle.base.proofs.NumberSetLemmas.{int_set_more}
use Rattle.descriptors.specs.declared.file_set.FieldInfo.{FieldInfo}
use Rattle.descriptor_pool.specs.DeclaredNames.{DeclaredMessage}
use Rattle.descriptor_pool.specs.DeclaredTypes.{SetTypes}
use Rattle.descriptor_pool.specs.JsonFieldNames.{json_of}
use Rattle.set_faults.specs.KeySteps.{keys_of}
use Rattle.set_faults.specs.LinkFaults.{IsFirst}
use Rattle.set_faults.specs.MessageFaults.{field_faults, fields_faults, json_faults, key_fault}
use Rattle.set_faults.specs.declared.fault.LinkFault.{LinkFault}
use Rattle.set_faults.proofs.Theorems.{first_more}

-- after a number is put into a set, the set has that number and what it had
pub numbers_more : (s n : BTreeSet ℤ) (k : ℤ) (ks : List ℤ) → sorted.Updates int_cmp s n k true → ((q : ℤ) → sorted.contains int_cmp s q ≡ list_any (int_eq q) ks)
    → (q : ℤ) → sorted.contains int_cmp n q ≡ list_any (int_eq q) (ks ++ k ∷ [])
numbers_more s n k ks u held q =
    int_set_more s n k u q
    ∙ ap (λ b. b || int_eq q k) (held q)
    ∙ ap (λ b. list_any (int_eq q) ks || b) (sym (or-false (int_eq q k)))
    ∙ sym (list_any-append (int_eq q) ks (k ∷ []))

-- the number of a field
abbrev pub number_of : FieldInfo → ℤ
number_of f = f.number

module _ (types : SetTypes) (path : List ℕ) (m : DeclaredMessage) (fs : List FieldInfo) (i : ℕ) (x : FieldInfo) (lt : i < length fs) (is : x ≡ get_or fs i x) where
  abbrev before : List ℤ
  before = map number_of (take i fs)

  abbrev after : List LinkFault
  after = fields_faults types path m (map number_of (take (i + 1) fs)) (drop (i + 1) fs)

  abbrev own : List LinkFault
  own = field_faults types path m (list_any (int_eq x.number) before) x

  here : fields_faults types path m before (drop i fs) ≡ own ++ after
  here =
      ap (fields_faults types path m before) (drop_more fs i x lt ∙ ap (λ z. z ∷ drop (i + 1) fs) (sym is))
      ∙ ap (λ z. own ++ fields_faults types path m z (drop (i + 1) fs)) (ap (λ z. before ++ z ∷ []) (ap number_of is) ∙ sym (map_more number_of fs i x lt))

  -- the set of numbers with that of one field more
  pub numbers_next : (s n : BTreeSet ℤ) → sorted.Updates int_cmp s n x.number true → ((q : ℤ) → sorted.contains int_cmp s q ≡ list_any (int_eq q) before)
      → (q : ℤ) → sorted.contains int_cmp n q ≡ list_any (int_eq q) (map number_of (take (i + 1) fs))
  numbers_next s n u held q =
      numbers_more s n x.number before u held q
      ∙ ap (list_any (int_eq q)) (ap (λ z. before ++ z ∷ []) (ap number_of is) ∙ sym (map_more number_of fs i x lt))

  -- a field without a fault is passed
  pub fields_past : own ≡ [] → after ≡ fields_faults types path m before (drop i fs)
  fields_past h = ap (λ z. z ++ after) (sym h) ∙ sym here

  -- the first fault of a field is the first that is left
  pub fields_here : (e : LinkFault) → IsFirst e own → IsFirst e (fields_faults types path m before (drop i fs))
  fields_here e h = subst (IsFirst e) (sym here) (first_more e own after h)

-- the faults of the keys of a field
abbrev pub own_faults : DeclaredMessage → List (List ℕ) → FieldInfo → List LinkFault
own_faults m before f = key_fault m before f.name ++ key_fault m before (json_of f)

module _ (fs : List FieldInfo) (i : ℕ) (x : FieldInfo) (lt : i < length fs) (is : x ≡ get_or fs i x) where
  keys_more : flat_map keys_of (take (i + 1) fs) ≡ flat_map keys_of (take i fs) ++ keys_of x
  keys_more =
      ap (flat_map keys_of) (take_more fs i x lt) ∙ flat_map-append keys_of (take i fs) (get_or fs i x ∷ [])
      ∙ ap (λ z. flat_map keys_of (take i fs) ++ z) (append-nil (keys_of (get_or fs i x)) ∙ ap keys_of (sym is))

  module _ (m : DeclaredMessage) where
    keys_here_is : json_faults m (flat_map keys_of (take i fs)) (drop i fs)
        ≡ own_faults m (flat_map keys_of (take i fs)) x ++ json_faults m (flat_map keys_of (take (i + 1) fs)) (drop (i + 1) fs)
    keys_here_is =
        let b = flat_map keys_of (take i fs) in
        ap (json_faults m b) (drop_more fs i x lt ∙ ap (λ z. z ∷ drop (i + 1) fs) (sym is))
        ∙ ap (λ z. key_fault m b x.name ++ (key_fault m b (json_of x) ++ json_faults m z (drop (i + 1) fs))) (sym keys_more)
        ∙ sym (append_assoc (key_fault m b x.name) (key_fault m b (json_of x)) (json_faults m (flat_map keys_of (take (i + 1) fs)) (drop (i + 1) fs)))

    -- a field whose keys did not come before is passed
    pub keys_past : own_faults m (flat_map keys_of (take i fs)) x ≡ [] → json_faults m (flat_map keys_of (take (i + 1) fs)) (drop (i + 1) fs) ≡ json_faults m (flat_map keys_of (take i fs)) (drop i fs)
    keys_past h = ap (λ z. z ++ json_faults m (flat_map keys_of (take (i + 1) fs)) (drop (i + 1) fs)) (sym h) ∙ sym keys_here_is

    -- the first key that came before is the first fault that is left
    pub keys_here : (e : LinkFault) → IsFirst e (own_faults m (flat_map keys_of (take i fs)) x) → IsFirst e (json_faults m (flat_map keys_of (take i fs)) (drop i fs))
    keys_here e h = subst (IsFirst e) (sym keys_here_is) (first_more e _ _ h)

or_two : (a b c : Bool) → ((a || b) || c) ≡ (a || (b || (c || false)))
or_two true b c = refl
or_two false true c = refl
or_two false false true = refl
or_two false false false = refl

-- after both keys of a field are put into a set, it has the keys of one field more
pub key_pair_more : (has later last : List ℕ → Bool) (fs : List FieldInfo) (i : ℕ) (x : FieldInfo) → i < length fs → x ≡ get_or fs i x
    → ((q : List ℕ) → has q ≡ list_any (bytes_eq q) (flat_map keys_of (take i fs)))
    → ((q : List ℕ) → later q ≡ (has q || bytes_eq q x.name)) → ((q : List ℕ) → last q ≡ (later q || bytes_eq q (json_of x)))
    → (q : List ℕ) → last q ≡ list_any (bytes_eq q) (flat_map keys_of (take (i + 1) fs))
key_pair_more has later last fs i x lt is held a b q =
    b q ∙ ap (λ z. z || bytes_eq q (json_of x)) (a q ∙ ap (λ z. z || bytes_eq q x.name) (held q))
    ∙ or_two (list_any (bytes_eq q) (flat_map keys_of (take i fs))) (bytes_eq q x.name) (bytes_eq q (json_of x))
    ∙ sym (list_any-append (bytes_eq q) (flat_map keys_of (take i fs)) (keys_of x))
    ∙ ap (list_any (bytes_eq q)) (sym (keys_more fs i x lt is))
