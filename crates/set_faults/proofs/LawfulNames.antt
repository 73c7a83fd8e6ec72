-- No name came before exactly where the names of files, and those of messages, enums and services, are distinct.
use Rattle.std.proofs.Common.{◌≡◌, ◌++◌, ◌||◌, ℕ, Bool, true, false, cond, List, [], ◌∷◌, refl, sym, ap, ◌∙◌}
use Rattle.std.proofs.lemmas.Bool.{or_parts}
use Rattle.std.proofs.lemmas.List.Folds.{list_any-append}
use Rattle.std.specs.List.{AllByRecursion, IsDistinct, flat_map, list_any}
use Rattle.std.specs.Str.{bytes_eq}
use Rattle.base.proofs.EachLemmas.{each_always, each_both, each_flat, each_of_flat, each_weaker}
use Rattle.base.proofs.TextLemmas.{bytes_eq_swap}
use Rattle.descriptor_pool.specs.DeclaredNames.{Declaration, DeclaredEnum, DeclaredMessage, File, Message, Enum, Service, Extension}
use Rattle.set_faults.specs.LawfulSets.{file_name, full_name}
use Rattle.set_faults.specs.NameFaults.{doubled, has_name_of}

-- a later declaration has not the name of an earlier one
abbrev Misses : Declaration → Declaration → Type 0
Misses d e = has_name_of e d ≡ false

-- no name of a list is this one
abbrev IsFree : List ℕ → List (List ℕ) → Type 0
IsFree name names = AllByRecursion (λ other. bytes_eq name other ≡ false) names

-- a declaration has the name of a message or an enum as it has that of a service of the name
abbrev IsFull : List ℕ → Declaration → Type 0
IsFull name d = (e : Declaration) → has_name_of e d ≡ has_name_of e (Service name)

module _ (name : List ℕ) where
  file_free : (e : Declaration) → Misses (File name) e → IsFree name (file_name e)
  file_free (File n) h = (bytes_eq_swap name n ∙ h, tt)
  file_free (Message m) h = tt
  file_free (Enum d) h = tt
  file_free (Service n) h = tt
  file_free (Extension n) h = tt

  file_missed : (e : Declaration) → IsFree name (file_name e) → Misses (File name) e
  file_missed (File n) h = bytes_eq_swap n name ∙ h.0
  file_missed (Message m) h = refl
  file_missed (Enum d) h = refl
  file_missed (Service n) h = refl
  file_missed (Extension n) h = refl

  full_free : (e : Declaration) → Misses (Service name) e → IsFree name (full_name e)
  full_free (File n) h = tt
  full_free (Message m) h = (bytes_eq_swap name m.name ∙ h, tt)
  full_free (Enum d) h = (bytes_eq_swap name d.name ∙ h, tt)
  full_free (Service n) h = (bytes_eq_swap name n ∙ h, tt)
  full_free (Extension n) h = tt

  full_missed : (e : Declaration) → IsFree name (full_name e) → Misses (Service name) e
  full_missed (File n) h = refl
  full_missed (Message m) h = bytes_eq_swap m.name name ∙ h.0
  full_missed (Enum d) h = bytes_eq_swap d.name name ∙ h.0
  full_missed (Service n) h = bytes_eq_swap n name ∙ h.0
  full_missed (Extension n) h = refl

  -- where no later declaration has a name, it is free among their names; and the other way
  files_free : (ds : List Declaration) → AllByRecursion (Misses (File name)) ds → IsFree name (flat_map file_name ds)
  files_free ds a =
      each_flat file_name (λ other. bytes_eq name other ≡ false) ds
      (each_weaker (Misses (File name)) (λ e. IsFree name (file_name e)) file_free ds a)

  files_missed : (ds : List Declaration) → IsFree name (flat_map file_name ds) → AllByRecursion (Misses (File name)) ds
  files_missed ds a =
      each_weaker (λ e. IsFree name (file_name e)) (Misses (File name)) file_missed ds
      (each_of_flat file_name (λ other. bytes_eq name other ≡ false) ds a)

  module _ (d : Declaration) (same : IsFull name d) where
    fulls_free : (ds : List Declaration) → AllByRecursion (Misses d) ds → IsFree name (flat_map full_name ds)
    fulls_free ds a =
        each_flat full_name (λ other. bytes_eq name other ≡ false) ds
        (each_weaker (Misses d) (λ e. IsFree name (full_name e)) (λ e h. full_free e (sym (same e) ∙ h)) ds a)

    fulls_missed : (ds : List Declaration) → IsFree name (flat_map full_name ds) → AllByRecursion (Misses d) ds
    fulls_missed ds a =
        each_weaker (λ e. IsFree name (full_name e)) (Misses d) (λ e h. same e ∙ full_missed e h) ds
        (each_of_flat full_name (λ other. bytes_eq name other ≡ false) ds a)

-- messages and enums are so
message_full : (m : DeclaredMessage) → IsFull m.name (Message m)
message_full m (File n) = refl
message_full m (Message k) = refl
message_full m (Enum k) = refl
message_full m (Service n) = refl
message_full m (Extension n) = refl

enum_full : (m : DeclaredEnum) → IsFull m.name (Enum m)
enum_full m (File n) = refl
enum_full m (Message k) = refl
enum_full m (Enum k) = refl
enum_full m (Service n) = refl
enum_full m (Extension n) = refl

-- an extension has no name that another could have
extension_missed : (name : List ℕ) (e : Declaration) → Misses (Extension name) e
extension_missed name (File n) = refl
extension_missed name (Message m) = refl
extension_missed name (Enum d) = refl
extension_missed name (Service n) = refl
extension_missed name (Extension n) = refl

-- both lists of names are distinct
abbrev AreNamesDistinct : List Declaration → Type 0
AreNamesDistinct ds = IsDistinct bytes_eq (flat_map file_name ds) × IsDistinct bytes_eq (flat_map full_name ds)

-- one declaration more in front keeps them so, where no later one has its name
distinct_more : (d : Declaration) (ds : List Declaration) → AllByRecursion (Misses d) ds → AreNamesDistinct ds
    → AreNamesDistinct (d ∷ ds)
unfolding IsDistinct
distinct_more (File n) ds a r = ((files_free n ds a, r.0), r.1)
distinct_more (Message m) ds a r = (r.0, (fulls_free m.name (Message m) (message_full m) ds a, r.1))
distinct_more (Enum e) ds a r = (r.0, (fulls_free e.name (Enum e) (enum_full e) ds a, r.1))
distinct_more (Service n) ds a r = (r.0, (fulls_free n (Service n) (λ e. refl) ds a, r.1))
distinct_more (Extension n) ds a r = r

-- and where they are so with it, no later one has its name
distinct_less : (d : Declaration) (ds : List Declaration) → AreNamesDistinct (d ∷ ds)
    → AllByRecursion (Misses d) ds × AreNamesDistinct ds
unfolding IsDistinct
distinct_less (File n) ds r = (files_missed n ds r.0.0, (r.0.1, r.1))
distinct_less (Message m) ds r = (fulls_missed m.name (Message m) (message_full m) ds r.1.0, (r.0, r.1.1))
distinct_less (Enum e) ds r = (fulls_missed e.name (Enum e) (enum_full e) ds r.1.0, (r.0, r.1.1))
distinct_less (Service n) ds r = (fulls_missed n (Service n) (λ e. refl) ds r.1.0, (r.0, r.1.1))
distinct_less (Extension n) ds r = (each_always (Misses (Extension n)) (extension_missed n) ds, r)

-- no declaration has the name of one of these
abbrev AreNew : List Declaration → List Declaration → Type 0
AreNew before ds = AllByRecursion (λ e. list_any (has_name_of e) before ≡ false) ds

module _ (before : List Declaration) (d : Declaration) where
  parted : (e : Declaration) → list_any (has_name_of e) (before ++ d ∷ []) ≡ false
      → (list_any (has_name_of e) before ≡ false) × Misses d e
  parted e k =
      let parts = or_parts (list_any (has_name_of e) before) (has_name_of e d || false)
      (sym (list_any-append (has_name_of e) before (d ∷ [])) ∙ k) in
      (parts.0, (or_parts (has_name_of e d) false parts.1).0)

  joined : (e : Declaration) → (list_any (has_name_of e) before ≡ false) × Misses d e
      → list_any (has_name_of e) (before ++ d ∷ []) ≡ false
  joined e h =
      list_any-append (has_name_of e) before (d ∷ [])
      ∙ ap (λ b. b || (has_name_of e d || false)) h.0 ∙ ap (λ b. b || false) h.1

  new_parts : (ds : List Declaration) → AreNew (before ++ d ∷ []) ds → AreNew before ds × AllByRecursion (Misses d) ds
  new_parts ds a = (
    each_weaker (λ e. list_any (has_name_of e) (before ++ d ∷ []) ≡ false)
        (λ e. list_any (has_name_of e) before ≡ false) (λ e h. (parted e h).0) ds a,
    each_weaker (λ e. list_any (has_name_of e) (before ++ d ∷ []) ≡ false) (Misses d) (λ e h. (parted e h).1) ds a,
  )

  new_more : (ds : List Declaration) → AreNew before ds → AllByRecursion (Misses d) ds → AreNew (before ++ d ∷ []) ds
  new_more ds a m =
      each_weaker (λ e. (list_any (has_name_of e) before ≡ false) × Misses d e)
      (λ e. list_any (has_name_of e) (before ++ d ∷ []) ≡ false) joined ds
      (each_both (λ e. list_any (has_name_of e) before ≡ false) (Misses d) ds a m)

distinct_of : (before ds : List Declaration) → doubled before ds ≡ [] → AreNew before ds × AreNamesDistinct ds
unfolding IsDistinct
distinct_of before [] h = (tt, (tt, tt))
distinct_of before (d ∷ ds) h = pick (list_any (has_name_of d) before) refl h (distinct_of (before ++ d ∷ []) ds)
  where
    pick : (b : Bool) → list_any (has_name_of d) before ≡ b
        → cond b (d ∷ doubled (before ++ d ∷ []) ds) (doubled (before ++ d ∷ []) ds) ≡ []
        → (doubled (before ++ d ∷ []) ds ≡ [] → AreNew (before ++ d ∷ []) ds × AreNamesDistinct ds)
        → AreNew before (d ∷ ds) × AreNamesDistinct (d ∷ ds)
    pick true e k r = absurd (cc k)
    pick false e k r =
        let rest = r k in
        let new = new_parts before d ds rest.0 in
        ((e, new.0), distinct_more d ds new.1 rest.1)

none_of : (before ds : List Declaration) → AreNew before ds → AreNamesDistinct ds → doubled before ds ≡ []
none_of before [] a r = refl
none_of before (d ∷ ds) a r =
    let less = distinct_less d ds r in
    let rest = doubled (before ++ d ∷ []) ds in
    ap (λ b. cond b (d ∷ rest) rest) a.0 ∙ none_of (before ++ d ∷ []) ds (new_more before d ds a.1 less.0) less.1

-- where no name came before, the names are distinct
pub names_apart : (ds : List Declaration) → doubled [] ds ≡ []
    → IsDistinct bytes_eq (flat_map file_name ds) × IsDistinct bytes_eq (flat_map full_name ds)
names_apart ds h = (distinct_of [] ds h).1

-- and where they are, none came before
pub undoubled : (ds : List Declaration) → IsDistinct bytes_eq (flat_map file_name ds)
    → IsDistinct bytes_eq (flat_map full_name ds) → doubled [] ds ≡ []
undoubled ds f n = none_of [] ds (each_always (λ e. list_any (has_name_of e) [] ≡ false) (λ e. refl) ds) (f, n)
