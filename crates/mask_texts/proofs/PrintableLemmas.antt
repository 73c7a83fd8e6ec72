-- Which paths can be written, byte by byte.
use Rattle.std.proofs.Common.{◌≡◌, ◌==◌, ℕ, zero, suc, Bool, true, false, cond, not, List, [], ◌∷◌, length, Some, None, is_some, slice_index, refl, sym, ap, ◌∙◌, arith}
use Rattle.std.proofs.lemmas.Bool.{and_parts, and_from, eq-eqb, eqb-true, false≢true, ne_eqb, not_from_false}
use Rattle.std.specs.Char.{is_ascii_lowercase}
use Rattle.std.specs.List.{AllByRecursion, list_all}
use Rattle.mask_texts.specs.MaskTexts.{are_printable, can_follow, is_printable_path, joined_paths, mask_text}
use Rattle.mask_texts.specs.PrintablePaths.{IsPrintablePath}
use Rattle.mask_texts.proofs.CamelBytes.{follows_somewhere}

-- each byte of what can be written may stand in a path
bytes_follow : (s : Bool) (path : List ℕ) → are_printable s path ≡ true → list_all (can_follow false) path ≡ true
bytes_follow s [] h = refl
bytes_follow s (b ∷ bs) h =
    let k = and_parts (can_follow s b) (are_printable (b == 95) bs) h in
    and_from (can_follow false b) (list_all (can_follow false) bs) (follows_somewhere s b k.0)
    (bytes_follow (b == 95) bs k.1)

-- what can be written behind `_` begins with a letter
letter_first : (path : List ℕ) → are_printable true path ≡ true → is_ascii_lowercase (slice_index path 0) ≡ true
letter_first [] h = absurd (false≢true h)
letter_first (b ∷ bs) h = (and_parts (is_ascii_lowercase b) (are_printable (b == 95) bs) h).0

-- behind each `_` of what can be written stands a letter
letters_follow : (s : Bool) (path : List ℕ) → are_printable s path ≡ true
    → (i : ℕ) → slice_index path i ≡ 95 → is_ascii_lowercase (slice_index path (suc i)) ≡ true
letters_follow s [] h i e = absurd (omega (arith, e))
letters_follow s (b ∷ bs) h zero e =
    letter_first bs (ap (λ t. are_printable t bs) (sym (eq-eqb b 95 e))
    ∙ (and_parts (can_follow s b) (are_printable (b == 95) bs) h).1)
letters_follow s (b ∷ bs) h (suc i) e =
    letters_follow (b == 95) bs (and_parts (can_follow s b) (are_printable (b == 95) bs) h).1 i e

-- bytes that may stand in a path can be written, where a letter stands behind each `_`, and in front behind one
all_follow : (s : Bool) (path : List ℕ) → list_all (can_follow false) path ≡ true
    → ((i : ℕ) → slice_index path i ≡ 95 → is_ascii_lowercase (slice_index path (suc i)) ≡ true)
    → (s ≡ true → is_ascii_lowercase (slice_index path 0) ≡ true) → are_printable s path ≡ true
all_follow false [] bytes letters first = refl
all_follow true [] bytes letters first = first refl
all_follow s (b ∷ bs) bytes letters first =
    let k = and_parts (can_follow false b) (list_all (can_follow false) bs) bytes in
    and_from (can_follow s b) (are_printable (b == 95) bs) (by_state s first k.0)
    (all_follow (b == 95) bs k.1 (λ i e. letters (suc i) e) (λ e. letters zero (eqb-true b 95 e)))
  where
    by_state : (t : Bool) → (t ≡ true → is_ascii_lowercase b ≡ true) → can_follow false b ≡ true → can_follow t b ≡ true
    by_state true f g = f refl
    by_state false f g = g

-- a path that one computes to be printable can be written
pub printable_is : (path : List ℕ) → is_printable_path path ≡ true → IsPrintablePath path
printable_is path h =
    let k = and_parts (not (length path == 0)) (are_printable false path) h in
    record {
      some = λ e. false≢true (sym (ap (λ p. not (length p == 0)) e) ∙ k.0);
      bytes = bytes_follow false path k.1;
      letters = letters_follow false path k.1;
    }

-- and the other way round
pub is_printable : (path : List ℕ) → IsPrintablePath path → is_printable_path path ≡ true
is_printable [] p = absurd (p.some refl)
is_printable (b ∷ bs) p =
    and_from (not (length (b ∷ bs) == 0)) (are_printable false (b ∷ bs))
    (not_from_false (length (b ∷ bs) == 0) (ne_eqb (length (b ∷ bs)) 0 (λ z. omega (arith, z))))
    (all_follow false (b ∷ bs) p.bytes p.letters (λ e. absurd (false≢true e)))

each_printable : (paths : List (List ℕ)) → list_all is_printable_path paths ≡ true
    → AllByRecursion IsPrintablePath paths
each_printable [] h = tt
each_printable (p ∷ ps) h =
    let k = and_parts (is_printable_path p) (list_all is_printable_path ps) h in
    (printable_is p k.0, each_printable ps k.1)

all_printable : (paths : List (List ℕ)) → AllByRecursion IsPrintablePath paths → list_all is_printable_path paths ≡ true
all_printable [] h = refl
all_printable (p ∷ ps) h =
    and_from (is_printable_path p) (list_all is_printable_path ps) (is_printable p h.0) (all_printable ps h.1)

-- paths that have a text can each be written
pub text_printable : (paths : List (List ℕ)) → is_some (mask_text paths) ≡ true → AllByRecursion IsPrintablePath paths
text_printable paths h = by_test (list_all is_printable_path paths) refl h
  where
    by_test : (t : Bool) → list_all is_printable_path paths ≡ t
        → is_some (cond t (Some (joined_paths paths)) None) ≡ true → AllByRecursion IsPrintablePath paths
    by_test true all e = each_printable paths all
    by_test false all e = absurd (false≢true e)

-- and paths that each can be written have one
pub printable_text : (paths : List (List ℕ)) → AllByRecursion IsPrintablePath paths → is_some (mask_text paths) ≡ true
printable_text paths h =
    ap (λ t. is_some (cond t (Some (joined_paths paths)) None)) (all_printable paths h)
