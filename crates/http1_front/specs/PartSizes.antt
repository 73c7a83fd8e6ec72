-- The parts of a connection's bytes, by their ends and their lines (RFC 9112, sections 2.1, 2.2 and 7.1).
use Rattle.std.specs.Prelude.{ℕ, List, Option}
use Rattle.http1_front.specs.declared.part.Part.{Part}
use Rattle.http1_front.specs.declared.part.Part.TheVariants.{Head, SizeLine, Trailers}
use Rattle.http1_requests.specs.HeadEnd.{head_size, line_size, section_size, head_lines, line_feeds}

-- the size of a part that stands at the front of bytes
abbrev pub part_size : Part → List ℕ → Option ℕ
part_size Head bytes = head_size bytes
part_size SizeLine bytes = line_size bytes
part_size Trailers bytes = section_size bytes

-- how many lines of a part have ended, of a head from its request line on
abbrev pub part_lines : Part → List ℕ → ℕ
part_lines Head bytes = head_lines bytes
part_lines SizeLine bytes = line_feeds bytes
part_lines Trailers bytes = line_feeds bytes
