-- Where the head of a request, a trailer section and a chunk size line end (RFC 9112, sections 2.1, 2.2 and 7.1), and
-- how large each may be. A line feed ends a line, with or without a CR before it; an empty line ends a head and a
-- section.
use Rattle.std.specs.Prelude.{ℕ, suc, Bool, false, ◌&&◌, ◌||◌, ◌==◌, List, [], ◌∷◌, take, drop, length, nat_lt, Option, Some, None, option_map, count_by, if◌then◌else◌}
use Rattle.httparse.specs.Ascii.{line_feed, carriage_return}

-- the first byte is this one
abbrev pub begins_with : ℕ → List ℕ → Bool
begins_with c [] = false
begins_with c (b ∷ bytes) = b == c

-- an empty line stands here: a line feed, or CR LF
abbrev pub begins_empty_line : List ℕ → Bool
begins_empty_line [] = false
begins_empty_line (b ∷ bytes) = b == line_feed || (b == carriage_return && begins_with line_feed bytes)

-- the size of that line
abbrev pub empty_line_size : List ℕ → ℕ
empty_line_size bytes = if begins_with line_feed bytes then 1 else 2

-- the bytes through the first line feed
unfoldable pub line_size : List ℕ → Option ℕ
line_size [] = None
line_size (b ∷ bytes) = if b == line_feed then Some 1 else option_map suc (line_size bytes)

-- the bytes through the first empty line that stands behind a line feed
unfoldable pub size_to_empty_line : List ℕ → Option ℕ
size_to_empty_line [] = None
size_to_empty_line (b ∷ bytes) =
    if b == line_feed && begins_empty_line bytes then Some (suc (empty_line_size bytes))
    else option_map suc (size_to_empty_line bytes)

-- the size of a section of field lines, with the empty line that ends it
abbrev pub section_size : List ℕ → Option ℕ
section_size bytes = if begins_empty_line bytes then Some (empty_line_size bytes) else size_to_empty_line bytes

-- the size of a head, with the empty lines before its request line, which are skipped (RFC 9112, section 2.2)
unfoldable pub head_size : List ℕ → Option ℕ
head_size [] = None
head_size (b ∷ bytes) =
    if begins_empty_line (b ∷ bytes) then option_map suc (head_size bytes) else size_to_empty_line (b ∷ bytes)

-- the bytes from the first that stands in no empty line
unfoldable pub behind_empty_lines : List ℕ → List ℕ
behind_empty_lines [] = []
behind_empty_lines (b ∷ bytes) = if begins_empty_line (b ∷ bytes) then behind_empty_lines bytes else b ∷ bytes

-- how many line feeds there are
abbrev pub line_feeds : List ℕ → ℕ
line_feeds bytes = count_by (λ b. b == line_feed) bytes

-- how many lines of a head there are from its request line on
abbrev pub head_lines : List ℕ → ℕ
head_lines bytes = line_feeds (behind_empty_lines bytes)

-- the largest head, chunk size line and trailer section, in bytes, with its end
abbrev pub size_limit : ℕ
size_limit = 16384

-- the most field lines of a head, and of a trailer section
abbrev pub field_limit : ℕ
field_limit = 64

-- what stands at the front, up to its end: no end so far, none within the limit, or the part with its end and the rest
pub data Cut : Type 0 where
  NoEnd : Cut
  TooLarge : Cut
  Ends : (part rest : List ℕ) → Cut

-- the bytes cut at a size
abbrev pub cut_by : Option ℕ → List ℕ → Cut
cut_by None bytes = if nat_lt (length bytes) size_limit then NoEnd else TooLarge
cut_by (Some n) bytes = Ends (take n bytes) (drop n bytes)

-- the bytes cut at the end that stands within the limit
abbrev pub cut_at : (List ℕ → Option ℕ) → List ℕ → Cut
cut_at size bytes = cut_by (size (take size_limit bytes)) bytes
