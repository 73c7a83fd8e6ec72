-- What each place of a scan says of the bytes to come, and one step of it.
use Rattle.std.specs.Prelude.{◌≡◌, ◌+◌, ◌-◌, ◌≤◌, ◌==◌, ℕ, List, [], ◌∷◌, Option, Some, None, option_map, if◌then◌else◌}
use Rattle.http1_front.specs.declared.part.Part.{Part}
use Rattle.http1_front.specs.declared.part.Part.TheVariants.{Head, SizeLine, Trailers}
use Rattle.http1_front.specs.declared.place.Place.{Place}
use Rattle.http1_front.specs.declared.place.Place.TheVariants.{Blank, BlankReturn, InLine, LineFeed, LineFeedReturn, SectionStart, SectionReturn, InSizeLine}
use Rattle.http1_requests.specs.HeadEnd.{head_size, line_size, section_size, size_to_empty_line, head_lines, line_feeds}

-- the place at the start of a part
abbrev pub first_place : Part → Place
first_place Head = Blank
first_place SizeLine = InSizeLine
first_place Trailers = SectionStart

-- how many bytes before the place still count for what the next ones mean
abbrev pub held : Place → ℕ
held Blank = 0
held BlankReturn = 1
held InLine = 0
held LineFeed = 1
held LineFeedReturn = 2
held SectionStart = 0
held SectionReturn = 1
held InSizeLine = 0

-- the size of the rest of the part, with the bytes that are held, by what comes next
abbrev pub rest_size : Place → List ℕ → Option ℕ
rest_size Blank more = head_size more
rest_size BlankReturn more = head_size (13 ∷ more)
rest_size InLine more = size_to_empty_line more
rest_size LineFeed more = size_to_empty_line (10 ∷ more)
rest_size LineFeedReturn more = size_to_empty_line (10 ∷ 13 ∷ more)
rest_size SectionStart more = section_size more
rest_size SectionReturn more = section_size (13 ∷ more)
rest_size InSizeLine more = line_size more

-- how many lines end in what comes next
abbrev pub rest_lines : Place → List ℕ → ℕ
rest_lines Blank more = head_lines more
rest_lines BlankReturn more = head_lines (13 ∷ more)
rest_lines InLine more = line_feeds more
rest_lines LineFeed more = line_feeds more
rest_lines LineFeedReturn more = line_feeds more
rest_lines SectionStart more = line_feeds more
rest_lines SectionReturn more = line_feeds more
rest_lines InSizeLine more = line_feeds more

-- how many lines a line feed ends here: none before a head
abbrev pub feed_step : Place → ℕ
feed_step Blank = 0
feed_step BlankReturn = 0
feed_step InLine = 1
feed_step LineFeed = 1
feed_step LineFeedReturn = 1
feed_step SectionStart = 1
feed_step SectionReturn = 1
feed_step InSizeLine = 1

-- how many lines a byte ends
abbrev pub line_step : Place → ℕ → ℕ
line_step place b = if b == 10 then feed_step place else 0

-- the place behind a line feed; none where the part ends with it
abbrev pub place_behind_feed : Place → Option Place
place_behind_feed Blank = Some Blank
place_behind_feed BlankReturn = Some Blank
place_behind_feed InLine = Some LineFeed
place_behind_feed LineFeed = None
place_behind_feed LineFeedReturn = None
place_behind_feed SectionStart = None
place_behind_feed SectionReturn = None
place_behind_feed InSizeLine = None

-- the place behind a CR
abbrev pub place_behind_return : Place → Place
place_behind_return Blank = BlankReturn
place_behind_return BlankReturn = InLine
place_behind_return InLine = InLine
place_behind_return LineFeed = LineFeedReturn
place_behind_return LineFeedReturn = InLine
place_behind_return SectionStart = SectionReturn
place_behind_return SectionReturn = InLine
place_behind_return InSizeLine = InSizeLine

-- the place behind any other byte
abbrev pub place_behind_other : Place → Place
place_behind_other Blank = InLine
place_behind_other BlankReturn = InLine
place_behind_other InLine = InLine
place_behind_other LineFeed = InLine
place_behind_other LineFeedReturn = InLine
place_behind_other SectionStart = InLine
place_behind_other SectionReturn = InLine
place_behind_other InSizeLine = InSizeLine

-- a size with bytes before it
abbrev pub moved : ℕ → Option ℕ → Option ℕ
moved d size = option_map (λ n. d + n) size

-- what one more byte shows, whatever follows: the part ends with it, or the scan stands at the next place
abbrev pub IsAfter : Place → ℕ → Option Place → Type 0
IsAfter place b None =
    ((more : List ℕ) → rest_size place (b ∷ more) ≡ Some (held place + 1))
    × (rest_lines place (b ∷ []) ≡ line_step place b)
IsAfter place b (Some next) =
    (held next ≤ held place + 1)
    × ((more : List ℕ) → rest_size place (b ∷ more) ≡ moved (held place + 1 - held next) (rest_size next more))
    × ((more : List ℕ) → rest_lines place (b ∷ more) ≡ line_step place b + rest_lines next more)
