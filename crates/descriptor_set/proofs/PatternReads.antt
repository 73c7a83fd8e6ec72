-- Of the patterns of a valid rule one stands at most, since they are members of one oneof.
use Rattle.std.proofs.Common.{◌≡◌, ◌≢◌, ◌==◌, ◌++◌, ℕ, Bool, true, false, cond, List, [], ◌∷◌, nat_eq, Option, Some, None, option_map, option_and_then, option_to_list, refl, ap, sym, ◌∙◌, subst}
use Rattle.std.proofs.lemmas.Bool.{both_ways, eq-eqb, eqb-true}
use Rattle.std.specs.List.{AllByRecursion, cons_option}
use Rattle.std.specs.Option.{option_or}
use Rattle.message_types.specs.Types.{field_in, fields_of}
use Rattle.message_types.specs.declared.fields.Field.{Field}
use Rattle.schema.specs.Apart.{AreApart}
use Rattle.schema.specs.Validity.{oneof_of, oneofs_in}
use Rattle.schema.specs.Value.{slot_at, slot_in, slots_of}
use Rattle.schema.specs.declared.value.Item.{Item, out-Item}
use Rattle.schema.specs.declared.value.Slot.{Slot, out-Slot}
use Rattle.schema.specs.declared.value.Value.{Value}
use Rattle.descriptor_set.specs.DescriptorFields.{custom_pattern, pattern_info}
use Rattle.descriptor_set.specs.DescriptorTypes.{descriptor_types, type_of}
use Rattle.descriptor_set.specs.FieldContents.{item_at, item_in, message_in, text_in}
use Rattle.descriptor_set.specs.ListedContents.{patterns_in}
use Rattle.descriptor_set.specs.declared.described.Described.TheVariants as in_
use Rattle.descriptors.specs.declared.file_set.PatternInfo.{PatternInfo}
use Rattle.descriptors.specs.declared.file_set.PatternInfo.TheVariants.{Get, Put, Post, Delete, Patch}

-- ---- a oneof has one member that stands

-- no number of a list is this one
abbrev IsFree : ℕ → List ℕ → Type 0
IsFree k js = AllByRecursion (λ (j : ℕ). nat_eq k j ≡ false) js

apart_tail : (o : Option ℕ) (js : List ℕ) → AreApart nat_eq (cons_option o js) → AreApart nat_eq js
apart_tail None js h = h
apart_tail (Some j) js h = h.1

apart_head : (k : ℕ) (o : Option ℕ) (js : List ℕ) → o ≡ Some k → AreApart nat_eq (cons_option o js) → IsFree k js
apart_head k None js e h = absurd (cc e)
apart_head k (Some j) js e h = let same : j ≡ k = cc e in subst (λ i. IsFree i js) same h.0

free_tail : (k : ℕ) (o : Option ℕ) (js : List ℕ) → IsFree k (cons_option o js) → IsFree k js
free_tail k None js h = h
free_tail k (Some j) js h = h.1

free_head : (k : ℕ) (o : Option ℕ) (js : List ℕ) → o ≡ Some k → IsFree k (cons_option o js) → ⊥
free_head k None js e h = absurd (cc e)
free_head k (Some j) js e h = let same : j ≡ k = cc e in both_ways (nat_eq k j) h.0 (eq-eqb k j (sym same))

-- numbers that a test tells apart differ
pub differ : (n m : ℕ) → nat_eq n m ≡ false → n ≢ m
differ n m h e = both_ways (nat_eq n m) h (eq-eqb n m e)

module _ (fields : List Field) (k : ℕ) where
  -- a number is that of a member of the oneof
  abbrev IsMember : ℕ → Type 0
  IsMember n = oneof_of (field_in fields n) ≡ Some k

  -- a member that stands is told by the list of oneofs
  member_told : (es : List (ℕ × Slot)) (m : ℕ) (s : Slot) → slot_in es m ≡ Some s → IsMember m
      → IsFree k (oneofs_in fields es) → ⊥
  member_told [] m s h o free = absurd (cc h)
  member_told (e ∷ es) m s h o free =
      pick (e.0 == m) (eqb-true e.0 m) h
      (λ g. member_told es m s g o (free_tail k (oneof_of (field_in fields e.0)) (oneofs_in fields es) free))
    where
      pick : (b : Bool) → (b ≡ true → e.0 ≡ m) → cond b (Some e.1) (slot_in es m) ≡ Some s
          → (slot_in es m ≡ Some s → ⊥) → ⊥
      pick true p g r = free_head k (oneof_of (field_in fields e.0)) (oneofs_in fields es)
          (ap (λ (n : ℕ). oneof_of (field_in fields n)) (p refl) ∙ o) free
      pick false p g r = r g

  -- of two members one stands at most
  pub one_member : (es : List (ℕ × Slot)) (n m : ℕ) (s t : Slot) → n ≢ m → slot_in es n ≡ Some s
      → slot_in es m ≡ Some t → IsMember n → IsMember m → AreApart nat_eq (oneofs_in fields es) → ⊥
  one_member [] n m s t ne h g o q a = absurd (cc h)
  one_member (e ∷ es) n m s t ne h g o q a =
      pick (e.0 == n) (e.0 == m) (eqb-true e.0 n) (eqb-true e.0 m) h g
      (λ x y. one_member es n m s t ne x y o q (apart_tail (oneof_of (field_in fields e.0)) (oneofs_in fields es) a))
    where
      other : (p : ℕ) → e.0 ≡ p → IsMember p → IsFree k (oneofs_in fields es)
      other p z u = apart_head k (oneof_of (field_in fields e.0)) (oneofs_in fields es)
          (ap (λ (i : ℕ). oneof_of (field_in fields i)) z ∙ u) a

      pick : (b c : Bool) → (b ≡ true → e.0 ≡ n) → (c ≡ true → e.0 ≡ m) → cond b (Some e.1) (slot_in es n) ≡ Some s
          → cond c (Some e.1) (slot_in es m) ≡ Some t
          → (slot_in es n ≡ Some s → slot_in es m ≡ Some t → ⊥) → ⊥
      pick true true z w x y r = ne (sym (z refl) ∙ w refl)
      pick true false z w x y r = member_told es m t y q (other n (z refl) o)
      pick false true z w x y r = member_told es n s x o (other m (w refl) q)
      pick false false z w x y r = r x y

-- ---- the first of some is all of them, where one is there at most

abbrev all_of : List (Option PatternInfo) → List PatternInfo
all_of [] = []
all_of (o ∷ []) = option_to_list o
all_of (o ∷ p ∷ os) = option_to_list o ++ all_of (p ∷ os)

abbrev first_of : List (Option PatternInfo) → Option PatternInfo
first_of [] = None
first_of (o ∷ []) = o
first_of (o ∷ p ∷ os) = option_or o (first_of (p ∷ os))

-- where one is there, none of those behind it is
abbrev AreAlone : List (Option PatternInfo) → Type 0
AreAlone [] = Unit {0}
AreAlone (o ∷ os) = ((p : PatternInfo) → o ≡ Some p → AllByRecursion (λ q. q ≡ None) os) × AreAlone os

none_there : (os : List (Option PatternInfo)) → AllByRecursion (λ q. q ≡ None) os → all_of os ≡ []
none_there [] a = refl
none_there (o ∷ []) a = ap option_to_list a.0
none_there (o ∷ p ∷ os) a = ap (λ z. option_to_list z ++ all_of (p ∷ os)) a.0 ∙ none_there (p ∷ os) a.1

first_is_all : (os : List (Option PatternInfo)) → AreAlone os → all_of os ≡ option_to_list (first_of os)
first_is_all [] a = refl
first_is_all (o ∷ []) a = refl
first_is_all (None ∷ p ∷ os) a = first_is_all (p ∷ os) a.1
first_is_all (Some x ∷ p ∷ os) a = ap (λ z. x ∷ z) (none_there (p ∷ os) (a.0 x refl))

-- ---- the patterns of a rule

module _ (v : Value) (apart : AreApart nat_eq
    (oneofs_in (fields_of descriptor_types (type_of in_.Rule)) (slots_of v))) where
  -- a field stands
  abbrev Stands : ℕ → Type 0
  Stands n = (s : Slot) × (slot_at v n ≡ Some s)

  stands : {X : Type 0} (put : X → PatternInfo) (get : Item → Option X) (n : ℕ) (p : PatternInfo)
      → option_map put (option_and_then get (item_at v n)) ≡ Some p → Stands n
  stands put get n p h = pick (slot_at v n) refl h
    where
      pick : (o : Option Slot) → slot_at v n ≡ o
          → option_map put (option_and_then get (option_and_then (λ s. item_in (out-Slot s)) o)) ≡ Some p → Stands n
      pick None e g = absurd (cc g)
      pick (Some s) e g = (s, e)

  absent : {X : Type 0} (put : X → PatternInfo) (get : Item → Option X) (m : ℕ) → (Stands m → ⊥)
      → option_map put (option_and_then get (item_at v m)) ≡ None
  absent put get m h = pick (slot_at v m) refl
    where
      pick : (o : Option Slot) → slot_at v m ≡ o
          → option_map put (option_and_then get (option_and_then (λ s. item_in (out-Slot s)) o)) ≡ None
      pick None e = refl
      pick (Some s) e = absurd (h (s, e))

  one_stands : (n m : ℕ) → nat_eq n m ≡ false → IsMember (fields_of descriptor_types (type_of in_.Rule)) 0 n
      → IsMember (fields_of descriptor_types (type_of in_.Rule)) 0 m → Stands n → Stands m → ⊥
  one_stands n m ne o q a b =
      one_member (fields_of descriptor_types (type_of in_.Rule)) 0 (slots_of v) n m a.0 b.0 (differ n m ne) a.1 b.1 o
      q apart

  abbrev text : Item → Option (List ℕ)
  text i = text_in (out-Item i)

  abbrev inner : Item → Option Value
  inner i = message_in (out-Item i)

  -- the patterns, by rising number, each where it stands
  abbrev patterns : List (Option PatternInfo)
  patterns =
      option_map Get (option_and_then text (item_at v 2)) ∷ option_map Put (option_and_then text (item_at v 3))
      ∷ option_map Post (option_and_then text (item_at v 4)) ∷ option_map Delete (option_and_then text (item_at v 5))
      ∷ option_map Patch (option_and_then text (item_at v 6))
      ∷ option_map custom_pattern (option_and_then inner (item_at v 8)) ∷ []

  alone : AreAlone patterns
  alone = (
    λ p e. let s = stands Get text 2 p e in (
      absent Put text 3 (one_stands 2 3 refl refl refl s),
      (
        absent Post text 4 (one_stands 2 4 refl refl refl s),
        (
          absent Delete text 5 (one_stands 2 5 refl refl refl s),
          (
            absent Patch text 6 (one_stands 2 6 refl refl refl s),
            (absent custom_pattern inner 8 (one_stands 2 8 refl refl refl s), tt),
          ),
        ),
      ),
    ),
    (
      λ p e. let s = stands Put text 3 p e in (
        absent Post text 4 (one_stands 3 4 refl refl refl s),
        (
          absent Delete text 5 (one_stands 3 5 refl refl refl s),
          (
            absent Patch text 6 (one_stands 3 6 refl refl refl s),
            (absent custom_pattern inner 8 (one_stands 3 8 refl refl refl s), tt),
          ),
        ),
      ),
      (
        λ p e. let s = stands Post text 4 p e in (
          absent Delete text 5 (one_stands 4 5 refl refl refl s),
          (
            absent Patch text 6 (one_stands 4 6 refl refl refl s),
            (absent custom_pattern inner 8 (one_stands 4 8 refl refl refl s), tt),
          ),
        ),
        (
          λ p e. let s = stands Delete text 5 p e in (
            absent Patch text 6 (one_stands 5 6 refl refl refl s),
            (absent custom_pattern inner 8 (one_stands 5 8 refl refl refl s), tt),
          ),
          (
            λ p e. let s = stands Patch text 6 p e in
                (absent custom_pattern inner 8 (one_stands 6 8 refl refl refl s), tt),
            (λ p e. tt, tt),
          ),
        ),
      ),
    ),
  )

  -- the pattern that is read is all that stand
  pub pattern_read : patterns_in v ≡ option_to_list (pattern_info v)
  pattern_read = first_is_all patterns alone
