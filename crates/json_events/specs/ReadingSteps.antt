-- The reader as a machine that takes one byte at a time.
use Rattle.std.specs.Prelude.{ℕ, ◌+◌, List, [], ◌∷◌, ◌++◌, Bool, true, false, Option, Some, None, option_map, if◌then◌else◌}
use Rattle.json_events.specs.declared.state.Bracket.{Bracket}
use Rattle.json_events.specs.declared.state.Want.{Want}
use Rattle.json_events.specs.declared.state.Want.TheVariants as want
use Rattle.json_events.specs.JsonTree.{Mark}
use Rattle.json_events.specs.NestingSteps.{Place, next}
use Rattle.json_events.specs.JsonText.{is_blank, Span, with_token}
use Rattle.json_events.specs.WordSteps.{Word, begin, more, is_number, mark_of, kind_state}

-- a configuration: what the machine keeps between two bytes
pub record Config : Type 0 where
  -- the word that has begun and not ended; its place is then the one after it
  pub word : Option Word
  pub place : Place
  -- where the word began
  pub from : ℕ
  -- how many bytes were taken
  pub at : ℕ

-- a configuration that there is
abbrev pub config : Option Word → Place → ℕ → ℕ → Option Config
config w p from at = Some (record { word = w; place = p; from = from; at = at })

-- what a byte leaves, and the tokens that it ends
pub record Out : Type 0 where
  pub next : Option Config
  pub given : List Span

-- what a byte leaves, and the tokens that it ends
abbrev pub leaves : Option Config → List Span → Out
leaves c ts = record { next = c; given = ts }

-- no text goes on so
abbrev pub failed : Out
failed = leaves None []

-- no word, after so many bytes
abbrev pub gap : Place → ℕ → Option Config
gap p at = config None p at at

-- the word as it is left, by whether it is whole
abbrev pub whole : Option Mark → Word → Place → ℕ → ℕ → Out
whole None w p from at = leaves (config (Some w) p from at) []
whole (Some m) w p from at = leaves (gap p at) (with_token m from at [])

-- a byte went to the word: it ends by itself, unless it is a number
abbrev pub on_word : Word → Place → ℕ → ℕ → Out
on_word w p from at = whole (if is_number w.state then None else mark_of w.state w.is_key w.held) w p from at

-- the word has begun, by the place behind it
abbrev pub enters : Word → Option Place → ℕ → Out
enters w None at = failed
enters w (Some p) at = on_word w p at (at + 1)

-- a byte has begun a word, where it may
abbrev pub begins : Option Word → Place → ℕ → Out
begins None p at = failed
begins (Some w) p at = enters w (next p (kind_state w.state w.is_key)) at

-- a string is a key there
abbrev pub wants_key : Want → Bool
wants_key want.Value = false
wants_key want.FirstItem = false
wants_key want.FirstKey = true
wants_key want.Key = true
wants_key want.Colon = false
wants_key want.After = false

-- a byte where no word has begun
abbrev pub out_gap : Place → ℕ → ℕ → Out
out_gap p at b = if is_blank b then leaves (gap p (at + 1)) [] else begins (begin (wants_key p.want) b) p at

-- the tokens stand before those that are given
abbrev pub with_given : List Span → Out → Out
with_given ts o = leaves o.next (ts ++ o.given)

-- a byte that does not go to the word: a number may have ended
abbrev pub ended : Option Mark → Place → ℕ → ℕ → ℕ → Out
ended None p from at b = failed
ended (Some m) p from at b = with_given (with_token m from at []) (out_gap p at b)

-- a byte behind a word, by whether the word may have it
abbrev pub out_word : Option Word → Word → Place → ℕ → ℕ → ℕ → Out
out_word None w p from at b = ended (mark_of w.state w.is_key w.held) p from at b
out_word (Some x) w p from at b = on_word x p from (at + 1)

-- a byte, by whether a word has begun
abbrev pub out_from : Option Word → Place → ℕ → ℕ → ℕ → Out
out_from None p from at b = out_gap p at b
out_from (Some w) p from at b = out_word (more w b) w p from at b

-- a byte, from a configuration
abbrev pub out : Config → ℕ → Out
out c b = out_from c.word c.place c.from c.at b

-- the tokens, where a whole text has come
abbrev pub if_done : Want → List Bracket → List Span → Option (List Span)
if_done want.Value st ts = None
if_done want.FirstItem st ts = None
if_done want.FirstKey st ts = None
if_done want.Key st ts = None
if_done want.Colon st ts = None
if_done want.After [] ts = Some ts
if_done want.After (b ∷ st) ts = None

-- the tokens of a word that ends with the text
abbrev pub end_word : Option Mark → Place → ℕ → ℕ → Option (List Span)
end_word None p from at = None
end_word (Some m) p from at = if_done p.want p.around (with_token m from at [])

-- the last tokens, where the bytes end here
abbrev pub end_from : Option Word → Place → ℕ → ℕ → Option (List Span)
end_from None p from at = if_done p.want p.around []
end_from (Some w) p from at = end_word (mark_of w.state w.is_key w.held) p from at

-- the tokens of what follows, where it completes a text
abbrev pub reads : Option Config → List ℕ → Option (List Span)
reads None s = None
reads (Some c) [] = end_from c.word c.place c.from c.at
reads (Some c) (b ∷ s) = let o = out c b in option_map (λ ts. o.given ++ ts) (reads o.next s)

-- the configuration before the first byte
abbrev pub start : Option Config
start = gap (record { want = want.Value; around = [] }) 0
