-- Which paths have a text, byte by byte (field_mask.proto, JSON Encoding of Field Masks).
use Rattle.std.specs.Prelude.{◌≡◌, ◌≢◌, ℕ, suc, true, false, List, [], slice_index}
use Rattle.std.specs.Char.{is_ascii_lowercase}
use Rattle.std.specs.List.{list_all}
use Rattle.mask_texts.specs.MaskTexts.{can_follow}

-- a path can be written: it is not empty, it has lower-case letters, digits, `.`, `*` and `_` alone, and behind each
-- `_` stands a lower-case letter
pub record IsPrintablePath (path : List ℕ) : Type 0 where
  pub some : path ≢ []
  pub bytes : list_all (can_follow false) path ≡ true
  pub letters : (i : ℕ) → slice_index path i ≡ 95 → is_ascii_lowercase (slice_index path (suc i)) ≡ true
