-- How a word that has taken a byte is put, and what a mark that may not come leaves.
use Rattle.std.proofs.Common.{◌≡◌, ℕ, ◌+◌, true, false, Bool, List, [], Option, Some, None, refl, ap, ◌∙◌}
use Rattle.std.specs.Prelude.{option_map, if◌then◌else◌}
use Rattle.json_events.specs.declared.state.Bracket.{Bracket}
use Rattle.json_events.specs.declared.state.WordState.{WordState}
use Rattle.json_events.specs.declared.state.WordState.TheVariants.{Open, Close, Comma, Colon, Literal, Inside, Minus, Zero, Whole, Point, Fraction, Exponent, Sign, Power}
use Rattle.json_events.specs.declared.fault.JsonFault.{JsonFault}
use Rattle.json_events.specs.declared.fault.JsonFault.TheVariants as fault
use Rattle.json_events.specs.JsonTree.{Mark}
use Rattle.json_events.specs.NestingSteps.{Place, next}
use Rattle.json_events.specs.WordSteps.{Word, begin, is_number, mark_of, kind_state}
use Rattle.json_events.specs.JsonText.{Span, with_token}
use Rattle.json_events.specs.ReadingSteps.{config, leaves, gap, whole, enters, begins, wants_key}
use Rattle.json_events.specs.ReaderState.{Reading}
use Rattle.json_events.specs.ProgressSeen.{is_opening, IsMarkFault, IsEntryFault}

-- a word that is not whole stays
pub put_open : (o : Option Mark) (w : Word) (p : Place) (from at : ℕ) → None ≡ option_map (λ m. with_token m from at []) o → leaves (config (Some w) p from at) [] ≡ whole o w p from at
put_open None w p from at h = refl
put_open (Some m) w p from at h = absurd (cc)

-- a word that is whole gives its token
pub put_whole : (o : Option Mark) (w : Word) (p : Place) (from at : ℕ) (xs : List Span) → Some xs ≡ option_map (λ m. with_token m from at []) o → leaves (gap p at) xs ≡ whole o w p from at
put_whole None w p from at xs h = absurd (cc)
put_whole (Some m) w p from at xs h = let same : xs ≡ with_token m from at [] = cc in ap (leaves (gap p at)) same

-- only an opening bracket opens
opening : (l : WordState) (i : Bool) → is_opening (kind_state l i) ≡ true → (b : Bracket) × (l ≡ Open b)
opening (Open b) i h = (b, refl)
opening (Close b) i h = absurd (cc (h))
opening Comma i h = absurd (cc (h))
opening Colon i h = absurd (cc (h))
opening (Literal n k) i h = absurd (cc (h))
opening (Inside s) true h = absurd (cc (h))
opening (Inside s) false h = absurd (cc (h))
opening Minus i h = absurd (cc (h))
opening Zero i h = absurd (cc (h))
opening Whole i h = absurd (cc (h))
opening Point i h = absurd (cc (h))
opening Fraction i h = absurd (cc (h))
opening Exponent i h = absurd (cc (h))
opening Sign i h = absurd (cc (h))
opening Power i h = absurd (cc (h))

-- why a byte may not stand there, by its mark
pub entry_fault : (f : JsonFault) (r : Reading) (b : ℕ) (w : Word) → begin (wants_key r.place.want) b ≡ Some w → IsMarkFault f r.at r.place (kind_state w.state w.is_key) → IsEntryFault f r b
entry_fault fault.NoMemory r b w e h = tt
entry_fault (fault.Syntax n) r b w e h = (h.0, (λ at. ap (λ o. begins o r.place at) e ∙ ap (λ q. enters w q at) h.1))
entry_fault (fault.TooDeep n) r b w e h = by_place (next r.place (kind_state w.state w.is_key)) refl
  where
    bracket : (br : Bracket) × (w.state ≡ Open br)
    bracket = opening w.state w.is_key h.1

    by_place : (o : Option Place) → next r.place (kind_state w.state w.is_key) ≡ o → IsEntryFault (fault.TooDeep n) r b
    by_place None x = absurd (h.3 x)
    by_place (Some q) x = (
      h.0,
      h.2,
      bracket.0,
      q,
      (λ at. ap (λ o. begins o r.place at) e ∙ ap (λ o. enters w o at) x ∙ ap (λ l. whole (if is_number l then None else mark_of l w.is_key w.held) w q at (at + 1)) bracket.1),
    )
