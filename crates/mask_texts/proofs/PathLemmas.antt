-- A path of a text is read and written again, and a path that can be written is written and read again.
use Rattle.std.proofs.Common.{◌≡◌, ◌==◌, ℕ, Bool, true, false, cond, not, List, [], ◌∷◌, ◌++◌, length, map, refl, sym, ap, ap₂, ◌∙◌, subst, arith}
use Rattle.std.proofs.lemmas.Bool.{and_parts, and_from, eqb-true, ne_eqb, not_from_false, false≢true}
use Rattle.std.specs.Char.{is_ascii_lowercase, is_ascii_uppercase, to_ascii_lowercase, to_ascii_uppercase}
use Rattle.std.specs.List.{list_all}
use Rattle.mask_texts.specs.MaskTexts.{is_camel_byte, is_camel_path, snake_byte, snake_path, can_follow, are_printable, is_printable_path, camel_bytes, camel_path}
use Rattle.mask_texts.proofs.CamelBytes.{lower_is, lower_other, lower_back, upper_camel, upper_snake, letter_other, plain_follows, plain_other, follower_camel, follower_snake}

-- what bytes of a text stand for can be written
read_printable : (w : List ℕ) → list_all is_camel_byte w ≡ true → are_printable false (snake_path w) ≡ true
read_printable [] h = refl
read_printable (b ∷ bs) h =
    by_case (is_ascii_uppercase b) refl (and_parts (is_camel_byte b) (list_all is_camel_byte bs) h).0
    (read_printable bs (and_parts (is_camel_byte b) (list_all is_camel_byte bs) h).1)
  where
    by_case : (t : Bool) → is_ascii_uppercase b ≡ t → is_camel_byte b ≡ true
        → are_printable false (snake_path bs) ≡ true
        → are_printable false (cond t (95 ∷ to_ascii_lowercase b ∷ []) (b ∷ []) ++ snake_path bs) ≡ true
    by_case true e is later =
        and_from (can_follow true (to_ascii_lowercase b))
        (are_printable (to_ascii_lowercase b == 95) (snake_path bs)) (lower_is b e)
        (ap (λ s. are_printable s (snake_path bs)) (lower_other b e) ∙ later)
    by_case false e is later =
        and_from (can_follow false b) (are_printable (b == 95) (snake_path bs)) (plain_follows b is e)
        (ap (λ s. are_printable s (snake_path bs)) (plain_other b is) ∙ later)

-- and is written as they are
read_written : (w : List ℕ) → list_all is_camel_byte w ≡ true → camel_path (snake_path w) ≡ w
read_written [] h = refl
read_written (b ∷ bs) h =
    by_case (is_ascii_uppercase b) refl (and_parts (is_camel_byte b) (list_all is_camel_byte bs) h).0
    (read_written bs (and_parts (is_camel_byte b) (list_all is_camel_byte bs) h).1)
  where
    by_case : (t : Bool) → is_ascii_uppercase b ≡ t → is_camel_byte b ≡ true
        → camel_bytes false (snake_path bs) ≡ bs
        → camel_bytes false (cond t (95 ∷ to_ascii_lowercase b ∷ []) (b ∷ []) ++ snake_path bs) ≡ b ∷ bs
    by_case true e is later =
        ap₂ (λ x ys. x ∷ ys) (lower_back b e)
        (ap (λ s. camel_bytes s (snake_path bs)) (lower_other b e) ∙ later)
    by_case false e is later =
        ap (λ s. cond s [] (b ∷ []) ++ camel_bytes s (snake_path bs)) (plain_other b is) ∙ ap (λ l. b ∷ l) later

-- bytes that can be written behind `_`, or not behind it, are read back with it, or without
written_back : (s : Bool) (p : List ℕ) → are_printable s p ≡ true → snake_path (camel_bytes s p) ≡ cond s (95 ∷ p) p
written_back false [] h = refl
written_back true [] h = absurd (false≢true h)
written_back true (b ∷ bs) h =
    let k = and_parts (is_ascii_lowercase b) (are_printable (b == 95) bs) h in
    let other = letter_other b k.0 in
    let later : are_printable false bs ≡ true = ap (λ s. are_printable s bs) (sym other) ∙ k.1 in
    ap (λ s. snake_byte (to_ascii_uppercase b) ++ snake_path (camel_bytes s bs)) other
    ∙ ap₂ (λ (xs ys : List ℕ). xs ++ ys) (upper_snake b k.0) (written_back false bs later)
written_back false (b ∷ bs) h =
    by_case (b == 95) refl (and_parts (can_follow false b) (are_printable (b == 95) bs) h).0
    (written_back (b == 95) bs (and_parts (can_follow false b) (are_printable (b == 95) bs) h).1)
  where
    by_case : (t : Bool) → (b == 95) ≡ t → can_follow false b ≡ true
        → snake_path (camel_bytes t bs) ≡ cond t (95 ∷ bs) bs
        → snake_path (cond t [] (b ∷ []) ++ camel_bytes t bs) ≡ b ∷ bs
    by_case true e follows later = later ∙ ap (λ x. x ∷ bs) (sym (eqb-true b 95 e))
    by_case false e follows later =
        ap₂ (λ (xs ys : List ℕ). xs ++ ys) (follower_snake b follows) later

-- and are written in bytes of a text
written_camel : (s : Bool) (p : List ℕ) → are_printable s p ≡ true → list_all is_camel_byte (camel_bytes s p) ≡ true
written_camel false [] h = refl
written_camel true [] h = absurd (false≢true h)
written_camel true (b ∷ bs) h =
    let k = and_parts (is_ascii_lowercase b) (are_printable (b == 95) bs) h in
    let other = letter_other b k.0 in
    let later : are_printable false bs ≡ true = ap (λ s. are_printable s bs) (sym other) ∙ k.1 in
    and_from (is_camel_byte (to_ascii_uppercase b)) (list_all is_camel_byte (camel_bytes (b == 95) bs))
    (upper_camel b k.0) (ap (λ s. list_all is_camel_byte (camel_bytes s bs)) other ∙ written_camel false bs later)
written_camel false (b ∷ bs) h =
    by_case (b == 95) refl (and_parts (can_follow false b) (are_printable (b == 95) bs) h).0
    (written_camel (b == 95) bs (and_parts (can_follow false b) (are_printable (b == 95) bs) h).1)
  where
    by_case : (t : Bool) → (b == 95) ≡ t → can_follow false b ≡ true
        → list_all is_camel_byte (camel_bytes t bs) ≡ true
        → list_all is_camel_byte (cond t [] (b ∷ []) ++ camel_bytes t bs) ≡ true
    by_case true e follows later = later
    by_case false e follows later =
        and_from (is_camel_byte b) (list_all is_camel_byte (camel_bytes false bs)) (follower_camel b follows e) later

-- what becomes a list that is not empty is not empty itself
full_before : (f : List ℕ → List ℕ) (p q : List ℕ) → f [] ≡ [] → f p ≡ q → not (length q == 0) ≡ true
    → not (length p == 0) ≡ true
full_before f [] q none e h = subst (λ l. not (length l == 0) ≡ true) (sym e ∙ none) h
full_before f (x ∷ p) q none e h = not_from_false (length (x ∷ p) == 0) (ne_eqb (length (x ∷ p)) 0 (λ z. omega (arith, z)))

-- a path of a text is read as one that can be written, and written as it was
pub read_and_written : (w : List ℕ) → is_camel_path w ≡ true
    → (is_printable_path (snake_path w) ≡ true) × (camel_path (snake_path w) ≡ w)
read_and_written w h =
    let k = and_parts (not (length w == 0)) (list_all is_camel_byte w) h in
    let back = read_written w k.1 in (
      and_from (not (length (snake_path w) == 0)) (are_printable false (snake_path w))
          (full_before camel_path (snake_path w) w refl back k.0) (read_printable w k.1),
      back,
    )

-- a path that can be written is written as one of a text, and read as it was
pub written_and_read : (p : List ℕ) → is_printable_path p ≡ true
    → (is_camel_path (camel_path p) ≡ true) × (snake_path (camel_path p) ≡ p)
written_and_read p h =
    let k = and_parts (not (length p == 0)) (are_printable false p) h in
    let back = written_back false p k.1 in (
      and_from (not (length (camel_path p) == 0)) (list_all is_camel_byte (camel_path p))
          (full_before snake_path (camel_path p) p refl back k.0) (written_camel false p k.1),
      back,
    )

-- where each that passes becomes one that passes, and leads back, so does a list
pub both_back : {X : Type 0} (p q : X → Bool) (f g : X → X)
    → ((x : X) → p x ≡ true → (q (f x) ≡ true) × (g (f x) ≡ x))
    → (xs : List X) → list_all p xs ≡ true → (list_all q (map f xs) ≡ true) × (map g (map f xs) ≡ xs)
both_back p q f g h [] all = (refl, refl)
both_back p q f g h (x ∷ xs) all =
    let k = and_parts (p x) (list_all p xs) all in
    let one = h x k.0 in
    let later = both_back p q f g h xs k.1 in
    (and_from (q (f x)) (list_all q (map f xs)) one.0 later.0, ap₂ (λ y ys. y ∷ ys) one.1 later.1)
