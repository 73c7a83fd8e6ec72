-- What a step does to what its configuration stands for.
use Rattle.std.proofs.Common.{◌≡◌, ℕ, ◌+◌, Bool, true, false, cond, eqb, List, [], ◌∷◌, ◌++◌, length, Option, Some, None, refl, sym, ap, ◌∙◌, subst, arith, append_assoc}
use Rattle.std.specs.Prelude.{option_map, ◌||◌}
use Rattle.std.proofs.lemmas.List.{append-nil}
use Rattle.std.proofs.lemmas.Bool.{eqb-true}
use Rattle.json_events.specs.declared.state.WordState.{WordState}
use Rattle.json_events.specs.declared.state.WordState.TheVariants.{Open, Close, Comma, Colon, Literal, Inside, Minus, Zero, Whole, Point, Fraction, Exponent, Sign, Power}
use Rattle.json_events.specs.JsonTree.{Json, Mark, digits, name}
use Rattle.json_events.specs.JsonText.{Span, with_token, spelling, is_blank, IsTextWith}
use Rattle.json_events.specs.WordSteps.{Word, begin, more, is_number, text_mark, mark_of, kind_state}
use Rattle.json_events.specs.WordStates.{IsOpen}
use Rattle.json_events.specs.NestingSteps.{Place, next}
use Rattle.json_events.specs.ReadingSteps.{reads, Config, config, leaves, gap, enters, begins, wants_key, out_gap, ended, out_word, out_from, out}
use Rattle.json_events.specs.ReadingMoves.{Moved, lost, number_ends, is_place, may_begin, may_come, moved_word, moved_from, moved_at}
use Rattle.json_events.specs.JsonTokens.{IsSound, IsValid, Awaits, AwaitsOn}
use Rattle.json_events.proofs.numbers.NumberWords.{from_choice}
use Rattle.json_events.proofs.texts.WordLemmas.{last_mark}
use Rattle.json_events.proofs.strings.StringStates.{open_string}
use Rattle.json_events.proofs.machine.PrefixLemmas.{stands_next, stands_number}
use Rattle.json_events.proofs.machine.StepLemmas.{valid_out}
use Rattle.json_events.proofs.machine.CountLemmas.{counted_out}

-- a move by its three parts
abbrev pub move : Option Config → Bool → List Span → Moved
move c t xs = record { next = c; took = t; given = xs }

-- an open word that may end is a number
pub open_mark : (l : WordState) (i : Bool) (held : List ℕ) (m : Mark) → IsOpen l → mark_of l i held ≡ Some m → is_number l ≡ true
open_mark (Open b) i held m h e = absurd h
open_mark (Close b) i held m h e = absurd h
open_mark Comma i held m h e = absurd h
open_mark Colon i held m h e = absurd h
open_mark (Literal n k) i held m h e =
    from_choice {X = Option Mark} (λ o. o ≡ Some m) (eqb k (length (spelling n))) (Some (name n)) None
    (λ t _. absurd (omega (arith, h, eqb-true k (length (spelling n)) t))) (λ _ x. absurd (cc)) e
open_mark (Inside s) i held m h e = let none : mark_of (Inside s) i held ≡ None = ap (option_map (text_mark i)) (open_string s held h) in absurd (cc)
open_mark Minus i held m h e = refl
open_mark Zero i held m h e = refl
open_mark Whole i held m h e = refl
open_mark Point i held m h e = refl
open_mark Fraction i held m h e = refl
open_mark Exponent i held m h e = refl
open_mark Sign i held m h e = refl
open_mark Power i held m h e = refl

-- what a choice between two moves is
pub either_move : {Q : Type 0} (m : Moved) (t : Bool) (x y : Moved) → m ≡ cond t x y → (t ≡ true → m ≡ x → Q) → (t ≡ false → m ≡ y → Q) → Q
either_move m true x y e f g = f refl e
either_move m false x y e f g = g refl e

-- a move that leaves something is not lost, and one that is not taken is a number's
not_lost : {Q : Type 0} (c : Config) (t : Bool) (xs : List Span) → move (Some c) t xs ≡ lost → Q
not_lost c t xs e = let n : Some c ≡ None = ap (λ (m : Moved). m.next) e in absurd (cc)

-- a move that is not taken is none that is
pub not_taken : {Q : Type 0} (n : Option Config) (xs : List Span) (m : Moved) → m.took ≡ true → move n false xs ≡ m → Q
not_taken n xs m t e = let x : false ≡ m.took = ap (λ (m : Moved). m.took) e in absurd (cc (x, t))

not_number : {Q : Type 0} (c : Config) (xs : List Span) (m : Option Mark) (p : Place) (from at : ℕ) → move (Some c) true xs ≡ number_ends m p from at → Q
not_number c xs None p from at e = not_lost c true xs e
not_number c xs (Some m) p from at e = let t : true ≡ false = ap (λ (m : Moved). m.took) e in absurd (cc)

-- a byte that was taken
pub taken_out : (w : Option Word) (p : Place) (from at b : ℕ) (c : Config) (xs : List Span) → move (Some c) true xs ≡ moved_from w p from at b → (Some c ≡ (out_from w p from at b).next) × (xs ≡ (out_from w p from at b).given)
taken_out None p from at b c xs h = (ap (λ (m : Moved). m.next) h, ap (λ (m : Moved). m.given) h)
taken_out (Some w) p from at b c xs h = by_more (more w b) h
  where
    by_more : (o : Option Word) → move (Some c) true xs ≡ moved_word o w p from at b → (Some c ≡ (out_word o w p from at b).next) × (xs ≡ (out_word o w p from at b).given)
    by_more None e = either_move _ (may_come p b) _ lost e (λ _ x. not_number c xs (mark_of w.state w.is_key w.held) p from at x) (λ _ x. not_lost c true xs x)
    by_more (Some x) e = (ap (λ (m : Moved). m.next) e, ap (λ (m : Moved). m.given) e)

-- a byte that is taken leads on
pub takes_on : (old new : Config) (b : ℕ) (xs : List Span) → IsValid (Some old) → move (Some new) true xs ≡ moved_at (Some old) b → AwaitsOn (Some old) (Some new) (b ∷ []) xs × IsValid (Some new)
takes_on c new b xs v h =
    let e = taken_out c.word c.place c.from c.at b new xs h in
    let valid : IsValid (out c b).next = valid_out c.word c.place c.from c.at b v in
    ((λ bytes ts s. subst (λ n. Awaits n (bytes ++ b ∷ []) (ts ++ xs)) (sym e.0) (subst (λ l. Awaits (out c b).next (bytes ++ b ∷ []) (ts ++ l)) (sym e.1) (stands_next c b bytes ts s valid (counted_out c b bytes ts v s.counted)))), subst IsValid (sym e.0) valid)

-- a byte that may not stand where no word has begun
refused_place : (o : Option Place) (w : Word) (at : ℕ) → is_place o ≡ false → (enters w o at).next ≡ None
refused_place None w at h = refl
refused_place (Some q) w at h = absurd (cc)

refused_begin : (o : Option Word) (p : Place) (at : ℕ) → may_begin o p ≡ false → (begins o p at).next ≡ None
refused_begin None p at h = refl
refused_begin (Some w) p at h = refused_place (next p (kind_state w.state w.is_key)) w at h

refused_gap : (p : Place) (at b : ℕ) → may_come p b ≡ false → (out_gap p at b).next ≡ None
refused_gap p at b h = by_test (is_blank b) h
  where
    by_test : (t : Bool) → (t || may_begin (begin (wants_key p.want) b) p) ≡ false → (cond t (leaves (gap p (at + 1)) []) (begins (begin (wants_key p.want) b) p at)).next ≡ None
    by_test true e = absurd (cc)
    by_test false e = refused_begin (begin (wants_key p.want) b) p at e

refused_end : (m : Option Mark) (p : Place) (from at b : ℕ) → may_come p b ≡ false → (ended m p from at b).next ≡ None
refused_end None p from at b h = refl
refused_end (Some m) p from at b h = refused_gap p at b h

lost_mark : (m : Option Mark) (p : Place) (from at b : ℕ) → lost ≡ number_ends m p from at → (ended m p from at b).next ≡ None
lost_mark None p from at b h = refl
lost_mark (Some m) p from at b h = let t : true ≡ false = ap (λ (m : Moved). m.took) h in absurd (cc)

-- a byte that is lost
lost_out : (w : Option Word) (p : Place) (from at b : ℕ) → lost ≡ moved_from w p from at b → (out_from w p from at b).next ≡ None
lost_out None p from at b h = sym (ap (λ (m : Moved). m.next) h)
lost_out (Some w) p from at b h = by_more (more w b) h
  where
    by_more : (o : Option Word) → lost ≡ moved_word o w p from at b → (out_word o w p from at b).next ≡ None
    by_more None e = either_move lost (may_come p b) (number_ends (mark_of w.state w.is_key w.held) p from at) lost e (λ _ x. lost_mark (mark_of w.state w.is_key w.held) p from at b x) (λ t _. refused_end (mark_of w.state w.is_key w.held) p from at b t)
    by_more (Some x) e = sym (ap (λ (m : Moved). m.next) e)

-- no text goes on with it
pub lost_on : (c : Config) (b : ℕ) (bytes : List ℕ) (ts : List Span) → lost ≡ moved_at (Some c) b → Awaits (Some c) bytes ts → (s : List ℕ) (others : List Span) (j : Json) → IsTextWith j ((bytes ++ b ∷ []) ++ s) (ts ++ others) → ⊥
lost_on c b bytes ts e h s others j x =
    let gone : (out c b).next ≡ None = lost_out c.word c.place c.from c.at b e in
    let none : reads (Some c) (b ∷ s) ≡ None = ap (λ n. option_map (λ l. (out c b).given ++ l) (reads n s)) gone in
    let r = (h.completes (b ∷ s) others).0 (j, subst (λ (l : List ℕ). IsTextWith j l (ts ++ others)) (append_assoc bytes (b ∷ []) s) x) in
    absurd (cc (r, none))

-- a number that is given leads on
pub number_given : (w : Word) (p : Place) (from at : ℕ) (new : Option Config) (xs : List Span) → IsSound (Some w) p → (m : Option Mark) → mark_of w.state w.is_key w.held ≡ m → move new false xs ≡ number_ends m p from at → AwaitsOn (config (Some w) p from at) new [] xs × IsValid new
number_given w p from at new xs v None e x = let t : false ≡ true = ap (λ (m : Moved). m.took) x in absurd (cc)
number_given w p from at new xs v (Some m) e x =
    let n = open_mark w.state w.is_key w.held m v.0 e in
    let d = (last_mark w.state w.is_key w.held m n e).1 in
    let next : gap p at ≡ new = sym (ap (λ (m : Moved). m.next) x) in
    let given : with_token (digits w.held) from at [] ≡ xs = ap (λ m. with_token m from at []) (sym d) ∙ sym (ap (λ (m : Moved). m.given) x) in (
      (λ bytes ts s.
          let r = stands_number w p from at w.held bytes ts n (e ∙ ap Some d) s in
          subst (λ (l : List ℕ). Awaits new l (ts ++ xs)) (sym (append-nil bytes)) (subst (λ c. Awaits c bytes (ts ++ xs)) next (subst (λ l. Awaits (gap p at) bytes (ts ++ l)) given r))),
      subst IsValid next tt,
    )

number_on : (w : Word) (p : Place) (from at b : ℕ) (new : Option Config) (xs : List Span) → IsSound (Some w) p → move new false xs ≡ moved_word (more w b) w p from at b → AwaitsOn (config (Some w) p from at) new [] xs × IsValid new
number_on w p from at b new xs v h = by_more (more w b) h
  where
    by_more : (o : Option Word) → move new false xs ≡ moved_word o w p from at b → AwaitsOn (config (Some w) p from at) new [] xs × IsValid new
    by_more None x = either_move _ (may_come p b) _ lost x (λ _ y. number_given w p from at new xs v (mark_of w.state w.is_key w.held) refl y) (λ _ y. not_taken new xs lost refl y)
    by_more (Some y) x = let t : false ≡ true = ap (λ (m : Moved). m.took) x in absurd (cc)

before_from : (w : Option Word) (p : Place) (from at b : ℕ) (new : Option Config) (xs : List Span) → IsSound w p → move new false xs ≡ moved_from w p from at b → AwaitsOn (config w p from at) new [] xs × IsValid new
before_from None p from at b new xs v h = let t : false ≡ true = ap (λ (m : Moved). m.took) h in absurd (cc)
before_from (Some w) p from at b new xs v h = number_on w p from at b new xs v h

-- a number that is given before a byte leads on
pub before_on : (old : Config) (new : Option Config) (b : ℕ) (xs : List Span) → IsValid (Some old) → move new false xs ≡ moved_at (Some old) b → AwaitsOn (Some old) new [] xs × IsValid new
before_on c new b xs v h = before_from c.word c.place c.from c.at b new xs v h
