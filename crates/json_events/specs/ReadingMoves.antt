-- What one byte does to a reader, which gives a number before the byte that shows its end, where that byte
-- may follow it.
use Rattle.std.specs.Prelude.{ℕ, ◌+◌, List, [], Bool, true, false, ◌||◌, if◌then◌else◌, Option, Some, None}
use Rattle.json_events.specs.JsonTree.{Mark}
use Rattle.json_events.specs.JsonText.{Span, with_token, is_blank}
use Rattle.json_events.specs.WordSteps.{Word, begin, more, mark_of, kind_state}
use Rattle.json_events.specs.NestingSteps.{Place, next}
use Rattle.json_events.specs.ReadingSteps.{Config, Out, gap, on_word, out_gap, wants_key}

-- one byte: what it leaves, whether it was taken, and the token that it ends. A number ends before the byte that follows it.
pub record Moved : Type 0 where
  pub next : Option Config
  pub took : Bool
  pub given : List Span

-- no text goes on with the byte
abbrev pub lost : Moved
lost = record { next = None; took = true; given = [] }

-- the byte is taken, with what it leaves
abbrev pub takes : Out → Moved
takes o = record { next = o.next; took = true; given = o.given }

-- a number ends before the byte
abbrev pub number_ends : Option Mark → Place → ℕ → ℕ → Moved
number_ends None p from at = lost
number_ends (Some m) p from at = record { next = gap p at; took = false; given = with_token m from at [] }

-- there is a place
abbrev pub is_place : Option Place → Bool
is_place None = false
is_place (Some p) = true

-- the word may begin at the place
abbrev pub may_begin : Option Word → Place → Bool
may_begin None p = false
may_begin (Some w) p = is_place (next p (kind_state w.state w.is_key))

-- the byte may stand there, where no word has begun
abbrev pub may_come : Place → ℕ → Bool
may_come p b = is_blank b || may_begin (begin (wants_key p.want) b) p

-- a number ends before a byte that may stand behind it
abbrev pub moved_word : Option Word → Word → Place → ℕ → ℕ → ℕ → Moved
moved_word None w p from at b = if may_come p b then number_ends (mark_of w.state w.is_key w.held) p from at else lost
moved_word (Some x) w p from at b = takes (on_word x p from (at + 1))

-- what a byte does, by whether a word has begun
abbrev pub moved_from : Option Word → Place → ℕ → ℕ → ℕ → Moved
moved_from None p from at b = takes (out_gap p at b)
moved_from (Some w) p from at b = moved_word (more w b) w p from at b

-- what a byte does to a configuration
abbrev pub moved : Config → ℕ → Moved
moved c b = moved_from c.word c.place c.from c.at b

-- what a byte does, where there is a configuration
abbrev pub moved_at : Option Config → ℕ → Moved
moved_at None b = lost
moved_at (Some c) b = moved c b
