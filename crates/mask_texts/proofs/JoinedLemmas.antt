-- Texts and the pieces that are joined in them, and texts that are written.
use Rattle.std.proofs.Common.{◌≡◌, ◌==◌, ℕ, zero, suc, Bool, true, false, not, List, [], ◌∷◌, length, map, All, refl, ap, ◌∙◌, arith, IsAscii, IsUtf8}
use Rattle.std.proofs.lemmas.Bool.{and_parts, and_from, false≢true, ltb-true}
use Rattle.std.proofs.lemmas.List.Folds.{list_all-append}
use Rattle.std.proofs.lemmas.List.Splits.{slice_split_at, slice_split_none, join_with_byte-slice_split}
use Rattle.std.proofs.lemmas.List.Sums.{AllPass-from_list_all}
use Rattle.std.proofs.lemmas.Str.{IsUtf8-from_ascii}
use Rattle.std.specs.Char.{is_ascii}
use Rattle.std.specs.List.{AllByRecursion, join_with_byte, list_all, slice_split}
use Rattle.mask_texts.specs.MaskTexts.{is_camel_byte, is_camel_path, is_comma, is_written_byte, pieces_of, snake_byte, snake_path}
use Rattle.mask_texts.proofs.CamelBytes.{camel_no_comma, camel_written, written_ascii, snake_byte_ascii}

-- the bytes of a path in a text
bytes_of_path : (w : List ℕ) → is_camel_path w ≡ true → list_all is_camel_byte w ≡ true
bytes_of_path w h = (and_parts (not (length w == 0)) (list_all is_camel_byte w) h).1

-- are no commas
no_comma : (w : List ℕ) → is_camel_path w ≡ true → All (λ b. is_comma b ≡ false) w
no_comma w h = λ k d within. camel_no_comma _ (AllPass-from_list_all is_camel_byte w (bytes_of_path w h) k d within)

-- paths that are joined are the pieces
split_joined : (w : List ℕ) (ws : List (List ℕ)) → list_all is_camel_path (w ∷ ws) ≡ true
    → slice_split is_comma (join_with_byte 44 (w ∷ ws)) ≡ w ∷ ws
split_joined w [] h =
    slice_split_none is_comma w (no_comma w (and_parts (is_camel_path w) (list_all is_camel_path []) h).0)
split_joined w (x ∷ xs) h =
    let k = and_parts (is_camel_path w) (list_all is_camel_path (x ∷ xs)) h in
    slice_split_at is_comma w 44 (join_with_byte 44 (x ∷ xs)) (no_comma w k.0) refl
    ∙ ap (λ l. w ∷ l) (split_joined x xs k.1)

-- also where there is none
pub pieces_joined : (ws : List (List ℕ)) → list_all is_camel_path ws ≡ true → pieces_of (join_with_byte 44 ws) ≡ ws
pieces_joined [] h = refl
pieces_joined ([] ∷ ws) h = absurd (false≢true (and_parts (is_camel_path []) (list_all is_camel_path ws) h).0)
pieces_joined ((b ∷ bs) ∷ []) h = split_joined (b ∷ bs) [] h
pieces_joined ((b ∷ bs) ∷ x ∷ xs) h = split_joined (b ∷ bs) (x ∷ xs) h

-- the pieces, joined, are the text
pub joined_pieces : (text : List ℕ) → join_with_byte 44 (pieces_of text) ≡ text
joined_pieces [] = refl
joined_pieces (b ∷ bs) = join_with_byte-slice_split 44 (b ∷ bs)

-- where one test follows from another, it holds of each that the other holds of
weaker_test : (p q : ℕ → Bool) → ((b : ℕ) → p b ≡ true → q b ≡ true)
    → (bs : List ℕ) → list_all p bs ≡ true → list_all q bs ≡ true
weaker_test p q h [] all = refl
weaker_test p q h (b ∷ bs) all =
    let k = and_parts (p b) (list_all p bs) all in
    and_from (q b) (list_all q bs) (h b k.0) (weaker_test p q h bs k.1)

-- paths that are joined have bytes that are written alone
pub joined_written : (ws : List (List ℕ)) → list_all is_camel_path ws ≡ true
    → list_all is_written_byte (join_with_byte 44 ws) ≡ true
joined_written [] h = refl
joined_written (w ∷ []) h =
    let k = and_parts (is_camel_path w) (list_all is_camel_path []) h in
    weaker_test is_camel_byte is_written_byte camel_written w (bytes_of_path w k.0)
joined_written (w ∷ x ∷ xs) h =
    let k = and_parts (is_camel_path w) (list_all is_camel_path (x ∷ xs)) h in
    list_all-append is_written_byte w (44 ∷ join_with_byte 44 (x ∷ xs))
    ∙ and_from (list_all is_written_byte w) (list_all is_written_byte (44 ∷ join_with_byte 44 (x ∷ xs)))
    (weaker_test is_camel_byte is_written_byte camel_written w (bytes_of_path w k.0)) (joined_written (x ∷ xs) k.1)

-- ASCII bytes, one by one
each_ascii : (bs : List ℕ) → list_all is_ascii bs ≡ true → IsAscii bs
each_ascii [] h i = omega arith
each_ascii (b ∷ bs) h zero = ltb-true b 128 (and_parts (is_ascii b) (list_all is_ascii bs) h).0
each_ascii (b ∷ bs) h (suc i) = each_ascii bs (and_parts (is_ascii b) (list_all is_ascii bs) h).1 i

-- bytes that are written are UTF-8
pub written_utf8 : (bs : List ℕ) → list_all is_written_byte bs ≡ true → IsUtf8 bs
written_utf8 bs h = IsUtf8-from_ascii bs (each_ascii bs (weaker_test is_written_byte is_ascii written_ascii bs h))

snake_ascii : (w : List ℕ) → list_all is_camel_byte w ≡ true → list_all is_ascii (snake_path w) ≡ true
snake_ascii [] h = refl
snake_ascii (b ∷ bs) h =
    let k = and_parts (is_camel_byte b) (list_all is_camel_byte bs) h in
    list_all-append is_ascii (snake_byte b) (snake_path bs)
    ∙ and_from (list_all is_ascii (snake_byte b)) (list_all is_ascii (snake_path bs)) (snake_byte_ascii b k.0)
    (snake_ascii bs k.1)

-- so is each path that is read
pub each_utf8 : (ws : List (List ℕ)) → list_all is_camel_path ws ≡ true → AllByRecursion IsUtf8 (map snake_path ws)
each_utf8 [] h = tt
each_utf8 (w ∷ ws) h =
    let k = and_parts (is_camel_path w) (list_all is_camel_path ws) h in (
      IsUtf8-from_ascii (snake_path w) (each_ascii (snake_path w) (snake_ascii w (bytes_of_path w k.0))),
      each_utf8 ws k.1,
    )
