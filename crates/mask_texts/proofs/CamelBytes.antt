-- Single bytes of paths, as a text has them and as a mask has them.
use Rattle.std.proofs.Common.{◌≡◌, ◌==◌, ℕ, Bool, true, false, cond, [], ◌∷◌, refl, ap, ◌∙◌, arith}
use Rattle.std.proofs.lemmas.Bool.{and_from, cond-true, cond-false}
use Rattle.std.proofs.lemmas.Bool.Decides.{nat_tests}
use Rattle.std.specs.Char.{is_ascii, is_ascii_lowercase, is_ascii_uppercase, to_ascii_lowercase, to_ascii_uppercase}
use Rattle.std.specs.List.{list_all}
use Rattle.mask_texts.specs.MaskTexts.{is_camel_byte, snake_byte, can_follow, is_comma, is_written_byte}

-- an upper-case letter's lower-case one is one
pub lower_is : (b : ℕ) → is_ascii_uppercase b ≡ true → is_ascii_lowercase (to_ascii_lowercase b) ≡ true
lower_is b h = grind (arith, nat_tests)

-- and no `_`
pub lower_other : (b : ℕ) → is_ascii_uppercase b ≡ true → (to_ascii_lowercase b == 95) ≡ false
lower_other b h = grind (arith, nat_tests)

-- and it leads back
pub lower_back : (b : ℕ) → is_ascii_uppercase b ≡ true → to_ascii_uppercase (to_ascii_lowercase b) ≡ b
lower_back b h = grind (arith, nat_tests)

-- a lower-case letter's upper-case one is one
pub upper_is : (b : ℕ) → is_ascii_lowercase b ≡ true → is_ascii_uppercase (to_ascii_uppercase b) ≡ true
upper_is b h = grind (arith, nat_tests)

-- and leads back
pub upper_back : (b : ℕ) → is_ascii_lowercase b ≡ true → to_ascii_lowercase (to_ascii_uppercase b) ≡ b
upper_back b h = grind (arith, nat_tests)

-- and may stand in a path of a text
pub upper_camel : (b : ℕ) → is_ascii_lowercase b ≡ true → is_camel_byte (to_ascii_uppercase b) ≡ true
upper_camel b h = grind (arith, nat_tests)

-- and is read as `_` and the letter
pub upper_snake : (b : ℕ) → is_ascii_lowercase b ≡ true → snake_byte (to_ascii_uppercase b) ≡ 95 ∷ b ∷ []
upper_snake b h =
    cond-true (is_ascii_uppercase (to_ascii_uppercase b)) (95 ∷ to_ascii_lowercase (to_ascii_uppercase b) ∷ [])
    (to_ascii_uppercase b ∷ []) (upper_is b h)
    ∙ ap (λ x. 95 ∷ x ∷ []) (upper_back b h)

-- a lower-case letter is no `_`
pub letter_other : (b : ℕ) → is_ascii_lowercase b ≡ true → (b == 95) ≡ false
letter_other b h = grind (arith, nat_tests)

-- a byte of a path in a text, but an upper-case letter, may be written
pub plain_follows : (b : ℕ) → is_camel_byte b ≡ true → is_ascii_uppercase b ≡ false → can_follow false b ≡ true
plain_follows b h e = grind (arith, nat_tests)

-- and is no `_`
pub plain_other : (b : ℕ) → is_camel_byte b ≡ true → (b == 95) ≡ false
plain_other b h = grind (arith, nat_tests)

-- a byte that may be written behind `_` may be written elsewhere too
pub follows_somewhere : (s : Bool) (b : ℕ) → can_follow s b ≡ true → can_follow false b ≡ true
follows_somewhere true b h = grind (arith, nat_tests)
follows_somewhere false b h = h

-- a byte that may be written, but `_`, may stand in a path of a text
pub follower_camel : (b : ℕ) → can_follow false b ≡ true → (b == 95) ≡ false → is_camel_byte b ≡ true
follower_camel b h e = grind (arith, nat_tests)

-- and is read as itself
follower_plain : (b : ℕ) → can_follow false b ≡ true → is_ascii_uppercase b ≡ false
follower_plain b h = grind (arith, nat_tests)

-- as such a byte
pub follower_snake : (b : ℕ) → can_follow false b ≡ true → snake_byte b ≡ b ∷ []
follower_snake b h =
    cond-false (is_ascii_uppercase b) (95 ∷ to_ascii_lowercase b ∷ []) (b ∷ []) (follower_plain b h)

-- a byte of a path in a text is no comma
pub camel_no_comma : (b : ℕ) → is_camel_byte b ≡ true → is_comma b ≡ false
camel_no_comma b h = grind (arith, nat_tests)

-- a byte of a path in a text may be written
pub camel_written : (b : ℕ) → is_camel_byte b ≡ true → is_written_byte b ≡ true
camel_written b h = grind (arith, nat_tests)

-- a byte that is written is ASCII
pub written_ascii : (b : ℕ) → is_written_byte b ≡ true → is_ascii b ≡ true
written_ascii b h = grind (arith, nat_tests)

camel_ascii : (b : ℕ) → is_camel_byte b ≡ true → is_ascii b ≡ true
camel_ascii b h = grind (arith, nat_tests)

lower_ascii : (b : ℕ) → is_ascii_uppercase b ≡ true → is_ascii (to_ascii_lowercase b) ≡ true
lower_ascii b h = grind (arith, nat_tests)

-- and so is what a byte of a path in a text stands for
pub snake_byte_ascii : (b : ℕ) → is_camel_byte b ≡ true → list_all is_ascii (snake_byte b) ≡ true
snake_byte_ascii b h = by_case (is_ascii_uppercase b) refl
  where
    by_case : (t : Bool) → is_ascii_uppercase b ≡ t
        → list_all is_ascii (cond t (95 ∷ to_ascii_lowercase b ∷ []) (b ∷ [])) ≡ true
    by_case true e = and_from _ _ (lower_ascii b e) refl
    by_case false e = and_from _ _ (camel_ascii b h) refl
