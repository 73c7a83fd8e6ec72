-- Names that came before.
use Rattle.std.proofs.Common.{◌≡◌, ◌<◌, ◌||◌, ◌+◌, ℕ, Bool, true, false, cond, List, [], ◌∷◌, ◌++◌, length, drop, take, get_or, refl, sym, ap, ◌∙◌}
use Rattle.std.proofs.lemmas.List.{drop_more, take_more}
use Rattle.std.proofs.lemmas.List.Folds.{list_any_more}
use Rattle.std.specs.List.{list_any}
use Rattle.descriptor_pool.specs.DeclaredNames.{Declaration, File, Message, Enum, Service, Extension, name_of}
use Rattle.descriptor_pool.specs.DeclarationViews.{seen}
use Rattle.set_faults.specs.NameFaults.{doubled, has_name_of, is_file_named, is_named}
use Rattle.descriptor_pool.specs.TextSets.{is_known}
use Rattle.descriptor_pool.specs.declared.declared_names.Declared.{Declared}
use Rattle.descriptor_pool.specs.declared.declared_names.Declared.TheVariants.{File as FileOf, Message as MessageOf, Enum as EnumOf, Service as ServiceOf, Extension as ExtensionOf}

-- a declaration is seen under its name
pub seen_name : (name : List ℕ) (d : Declared) → name_of (seen name d) ≡ name
seen_name name FileOf = refl
seen_name name (MessageOf f m) = refl
seen_name name (EnumOf e) = refl
seen_name name ServiceOf = refl
seen_name name (ExtensionOf f) = refl

none : (before : List Declaration) → list_any (λ (e : Declaration). false) before ≡ false
none [] = refl
none (d ∷ ds) = none ds

-- sets of the names before tell whether a name came before
pub known_is : (files names : List ℕ → Bool) (before : List Declaration)
    → ((q : List ℕ) → files q ≡ list_any (is_file_named q) before) → ((q : List ℕ) → names q ≡ list_any (is_named q) before)
    → (d : Declaration) → is_known files names d ≡ list_any (has_name_of d) before
known_is files names before f n (File name) = f name
known_is files names before f n (Message m) = n m.name
known_is files names before f n (Enum e) = n e.name
known_is files names before f n (Service name) = n name
known_is files names before f n (Extension name) = sym (none before)

module _ (ds : List Declaration) (i : ℕ) (x : Declaration) (lt : i < length ds) (is : x ≡ get_or ds i x) where
  abbrev after : List Declaration
  after = doubled (take (i + 1) ds) (drop (i + 1) ds)

  here : doubled (take i ds) (drop i ds) ≡ cond (list_any (has_name_of x) (take i ds)) (x ∷ after) after
  here =
      ap (doubled (take i ds)) (drop_more ds i x lt ∙ ap (λ z. z ∷ drop (i + 1) ds) (sym is))
      ∙ ap (λ z. cond (list_any (has_name_of x) (take i ds)) (x ∷ doubled z (drop (i + 1) ds)) (doubled z (drop (i + 1) ds))) (ap (λ z. take i ds ++ z ∷ []) is ∙ sym (take_more ds i x lt))

  -- a name that did not come before is passed
  pub doubled_past : list_any (has_name_of x) (take i ds) ≡ false → after ≡ doubled (take i ds) (drop i ds)
  doubled_past h = ap (λ b. cond b (x ∷ after) after) (sym h) ∙ sym here

  -- one that did is the first that is left
  pub doubled_here : list_any (has_name_of x) (take i ds) ≡ true → doubled (take i ds) (drop i ds) ≡ x ∷ after
  doubled_here h = here ∙ ap (λ b. cond b (x ∷ after) after) h

or_any : (p : Declaration → Bool) (ds : List Declaration) (i : ℕ) (x : Declaration) → i < length ds → x ≡ get_or ds i x → list_any p (take (i + 1) ds) ≡ (list_any p (take i ds) || p x)
or_any p ds i x lt is = list_any_more p ds i x lt ∙ ap (λ z. list_any p (take i ds) || p z) (sym is)

-- names that are known with one declaration more
pub known_more : (p : List ℕ → Declaration → Bool) (has later : List ℕ → Bool) (ds : List Declaration) (i : ℕ) (x : Declaration) → i < length ds → x ≡ get_or ds i x
    → ((q : List ℕ) → has q ≡ list_any (p q) (take i ds)) → ((q : List ℕ) → later q ≡ (has q || p q x)) → (q : List ℕ) → later q ≡ list_any (p q) (take (i + 1) ds)
known_more p has later ds i x lt is held more q = more q ∙ ap (λ z. z || p q x) (held q) ∙ sym (or_any (p q) ds i x lt is)
