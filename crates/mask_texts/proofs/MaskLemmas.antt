-- Texts and the paths that they mean: the laws.
use Rattle.std.proofs.Common.{◌≡◌, ℕ, Bool, true, false, cond, List, map, Some, None, is_some, unwrap_or, refl, sym, ap, ◌∙◌, subst, IsUtf8}
use Rattle.std.proofs.lemmas.Bool.{cond-true, false≢true}
use Rattle.std.specs.List.{AllByRecursion, join_with_byte, list_all}
use Rattle.mask_texts.specs.MaskTexts.{MeansMask, is_camel_path, is_printable_path, is_written_byte, snake_path, camel_path, pieces_of, joined_paths, mask_reading, mask_text}
use Rattle.mask_texts.proofs.JoinedLemmas.{pieces_joined, joined_pieces, joined_written, each_utf8}
use Rattle.mask_texts.proofs.PathLemmas.{both_back, read_and_written, written_and_read}

-- what one computes of a text is meant
pub read_means : (text : List ℕ) (paths : List (List ℕ)) → mask_reading text ≡ Some paths → MeansMask text paths
read_means text paths h = by_test (list_all is_camel_path (pieces_of text)) refl h
  where
    by_test : (t : Bool) → list_all is_camel_path (pieces_of text) ≡ t
        → cond t (Some (map snake_path (pieces_of text))) None ≡ Some paths → MeansMask text paths
    by_test true are e = record {
      written = pieces_of text;
      are_paths = are;
      joined = sym (joined_pieces text);
      meant = sym (ap (λ o. unwrap_or o paths) e);
    }
    by_test false are e = absurd (false≢true (ap is_some e))

-- paths that are joined are computed
joined_read : (ws : List (List ℕ)) → list_all is_camel_path ws ≡ true
    → mask_reading (join_with_byte 44 ws) ≡ Some (map snake_path ws)
joined_read ws h =
    ap (λ ps. cond (list_all is_camel_path ps) (Some (map snake_path ps)) None) (pieces_joined ws h)
    ∙ cond-true (list_all is_camel_path ws) (Some (map snake_path ws)) None h

-- what is meant is computed
pub means_read : (text : List ℕ) (paths : List (List ℕ)) → MeansMask text paths → mask_reading text ≡ Some paths
means_read text paths m =
    ap mask_reading m.joined ∙ (joined_read m.written m.are_paths ∙ ap Some (sym m.meant))

-- a text means one list of paths
pub one_meaning : (text : List ℕ) (a b : List (List ℕ)) → MeansMask text a → MeansMask text b → a ≡ b
one_meaning text a b x y = ap (λ o. unwrap_or o a) (sym (means_read text a x) ∙ means_read text b y)

-- the text that is written for paths means them
pub text_means : (text : List ℕ) (paths : List (List ℕ)) → mask_text paths ≡ Some text → MeansMask text paths
text_means text paths h = by_test (list_all is_printable_path paths) refl h
  where
    by_test : (t : Bool) → list_all is_printable_path paths ≡ t
        → cond t (Some (joined_paths paths)) None ≡ Some text → MeansMask text paths
    by_test true are e =
        let back = both_back is_printable_path is_camel_path camel_path snake_path written_and_read paths are in
        record {
          written = map camel_path paths;
          are_paths = back.0;
          joined = sym (ap (λ o. unwrap_or o text) e);
          meant = sym back.1;
        }
    by_test false are e = absurd (false≢true (ap is_some e))

-- a text that means paths is written for them
pub means_text : (text : List ℕ) (paths : List (List ℕ)) → MeansMask text paths → mask_text paths ≡ Some text
means_text text paths m =
    let back =
    both_back is_camel_path is_printable_path snake_path camel_path read_and_written m.written m.are_paths in
    ap mask_text m.meant
    ∙ (cond-true (list_all is_printable_path (map snake_path m.written))
    (Some (joined_paths (map snake_path m.written))) None back.0
    ∙ ap Some (ap (join_with_byte 44) back.1 ∙ sym m.joined))

-- a text that means paths has bytes that are written alone
pub means_written : (text : List ℕ) (paths : List (List ℕ)) → MeansMask text paths
    → list_all is_written_byte text ≡ true
means_written text paths m = ap (list_all is_written_byte) m.joined ∙ joined_written m.written m.are_paths

-- and each of the paths is UTF-8
pub means_utf8 : (text : List ℕ) (paths : List (List ℕ)) → MeansMask text paths → AllByRecursion IsUtf8 paths
means_utf8 text paths m = subst (AllByRecursion IsUtf8) (sym m.meant) (each_utf8 m.written m.are_paths)
