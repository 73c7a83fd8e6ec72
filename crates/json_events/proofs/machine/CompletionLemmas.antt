-- No reader is at a dead end: some bytes complete a text.
use Rattle.std.proofs.Common.{◌≡◌, ℕ, zero, suc, ◌+◌, ◌-◌, ◌<◌, ◌≤◌, Bool, true, false, cond, List, [], ◌∷◌, ◌++◌, length, get_or, drop, Option, Some, None, inl, ⊎_elim, refl, sym, ap, ◌∙◌, arith}
use Rattle.std.specs.Prelude.{option_map}
use Rattle.std.specs.List.{AllByRecursion}
use Rattle.std.proofs.lemmas.List.{drop_all}
use Rattle.std.proofs.lemmas.Bool.{eq-eqb, ne_eqb, cases_Bool}
use Rattle.std.proofs.lemmas.Option.{slice_get-get_or}
use Rattle.std.proofs.Math.Seq.{drop-cons}
use Rattle.json_events.specs.declared.state.Bracket.{Bracket}
use Rattle.json_events.specs.declared.state.Bracket.TheVariants.{Array, Object}
use Rattle.json_events.specs.declared.state.Name.{Name}
use Rattle.json_events.specs.declared.state.Want.{Want}
use Rattle.json_events.specs.declared.state.Want.TheVariants as want
use Rattle.json_events.specs.declared.state.WordState.{WordState}
use Rattle.json_events.specs.declared.state.WordState.TheVariants.{Open, Close, Comma, Colon, Literal, Inside, Minus, Zero, Whole, Point, Fraction, Exponent, Sign, Power}
use Rattle.json_events.specs.JsonTree.{Json, Mark, digits, name}
use Rattle.json_events.specs.NestingSteps.{Place}
use Rattle.json_events.specs.JsonText.{HasWord, spelling}
use Rattle.json_events.specs.JsonNumbers.{IsNumber}
use Rattle.json_events.specs.WordSteps.{Word, letter, is_number, text_mark, mark_of, word_from}
use Rattle.json_events.specs.JsonText.{Span, with_token, Spells, IsTextWith}
use Rattle.json_events.specs.ReadingSteps.{Config, config, whole, reads}
use Rattle.json_events.specs.WordStates.{IsOpen}
use Rattle.json_events.specs.JsonTokens.{IsSound, Awaits}
use Rattle.json_events.proofs.numbers.NumberWords.{Accepts, number_of_unsigned}
use Rattle.json_events.proofs.strings.StringRuns.{empty_string}
use Rattle.json_events.proofs.strings.StringStates.{string_ends, open_string}
use Rattle.json_events.proofs.texts.WordLemmas.{of, number_complete, text_complete}
use Rattle.json_events.proofs.texts.MarkLemmas.{can_close, can_lead}
use Rattle.json_events.proofs.texts.TokenLemmas.{Goes, reads_out}
use Rattle.json_events.proofs.texts.TokenRuns.{leaves_none, goes_reads, follows, word_reads}

letters_complete : (f : ℕ) (n : Name) (k : ℕ) (i : Bool) (held : List ℕ) → k + f ≡ length (spelling n) → word_from (Some (of (Literal n k) i held)) (drop k (spelling n)) ≡ Some (name n)
letters_complete zero n k i held e =
    let all : k ≡ length (spelling n) = omega (arith, e) in
    ap (word_from (Some (of (Literal n k) i held))) (drop_all k (spelling n) (omega (arith, all))) ∙ ap (λ t. cond t (Some (name n)) None) (eq-eqb k (length (spelling n)) all)
letters_complete (suc f) n k i held e =
    let s = spelling n in
    let less : k < length s = omega (arith, e) in
    let b = get_or s k 0 in
    let next_k : k + 1 ≡ suc k = omega arith in
    ap (word_from (Some (of (Literal n k) i held))) (drop-cons s k 0 less)
    ∙ ap (λ o. word_from (option_map (λ l. of l i held) (letter n k o b)) (drop (suc k) s)) (slice_get-get_or s k 0 less)
    ∙ ap (λ t. word_from (option_map (λ l. of l i held) (cond t (Some (Literal n (k + 1))) None)) (drop (suc k) s)) (eq-eqb b b refl)
    ∙ ap (λ j. word_from (Some (of (Literal n (k + 1)) i held)) (drop j s)) (sym next_k)
    ∙ letters_complete f n (k + 1) i held (omega (arith, e))

abbrev CanEnd : WordState → Bool → List ℕ → Type 0
CanEnd l k held = (t : List ℕ) × (m : Mark) × (word_from (Some (of l k held)) t ≡ Some m) × (is_number l ≡ false → (s : List ℕ) → m ≡ digits s → ⊥)

number_ends : (t : List ℕ) (l : WordState) (k : Bool) (held : List ℕ) → is_number l ≡ true → Accepts (Some l) t → CanEnd l k held
number_ends t l k held n a = (t, digits (held ++ t), number_complete t l k held n a, (λ f s e. absurd (cc (f, n))))

-- a string is no number
pub no_digits : (k : Bool) (s u : List ℕ) → text_mark k s ≡ digits u → ⊥
no_digits true s u e = cc
no_digits false s u e = cc

can_end : (l : WordState) (k : Bool) (held : List ℕ) → IsOpen l → CanEnd l k held
can_end (Open b) k held h = absurd h
can_end (Close b) k held h = absurd h
can_end Comma k held h = absurd h
can_end Colon k held h = absurd h
can_end (Literal n i) k held h = let less : i ≤ length (spelling n) = omega (arith, h) in (drop i (spelling n), name n, letters_complete (length (spelling n) - i) n i k held (omega (arith, h)), (λ f s e. cc))
can_end (Inside s) k held h =
    let r = string_ends s held h in
    (r.0, text_mark k r.1, text_complete r.0 s k held r.1 r.2, (λ f u e. no_digits k r.1 u e))
can_end Minus k held h = number_ends (48 ∷ []) Minus k held refl tt
can_end Zero k held h = number_ends [] Zero k held refl tt
can_end Whole k held h = number_ends [] Whole k held refl tt
can_end Point k held h = number_ends (48 ∷ []) Point k held refl tt
can_end Fraction k held h = number_ends [] Fraction k held refl tt
can_end Exponent k held h = number_ends (48 ∷ []) Exponent k held refl tt
can_end Sign k held h = number_ends (48 ∷ []) Sign k held refl tt
can_end Power k held h = number_ends [] Power k held refl tt

-- what completes a text from a place

zero_number : IsNumber (48 ∷ [])
zero_number = number_of_unsigned [] (48 ∷ []) (inl refl) (48 ∷ [], [], [], refl, inl (refl, refl), tt, tt)

close_words : (st : List Bracket) → AllByRecursion HasWord (can_close st).0
close_words [] = tt
close_words (Array ∷ st) = ((93 ∷ [], refl), close_words st)
close_words (Object ∷ st) = ((125 ∷ [], refl), close_words st)

lead_words : (w : Want) (st : List Bracket) → AllByRecursion HasWord (can_lead w st).0
lead_words want.Value st = ((48 ∷ [], (refl, zero_number)), close_words st)
lead_words want.FirstItem st = ((93 ∷ [], refl), close_words st)
lead_words want.FirstKey st = ((125 ∷ [], refl), close_words st)
lead_words want.Key st = ((34 ∷ 34 ∷ [], empty_string), ((58 ∷ [], refl), ((48 ∷ [], (refl, zero_number)), ((125 ∷ [], refl), close_words st))))
lead_words want.Colon st = ((58 ∷ [], refl), ((48 ∷ [], (refl, zero_number)), ((125 ∷ [], refl), close_words st)))
lead_words want.After st = close_words st

spell : (ms : List Mark) (from : ℕ) → AllByRecursion HasWord ms → (s : List ℕ) × (ts : List Span) × Spells from ms s ts
spell [] from h = ([], [], (refl, refl))
spell (m ∷ ms) from h =
    let w = h.0.0 in
    let r = spell ms (from + 0 + length w) h.1 in
    (w ++ r.0, with_token m (from + 0) (from + 0 + length w) r.1, ([], w, r.0, r.1, refl, refl, h.0.1, r.2, refl))

place_ends : (p : Place) (n : ℕ) → (s : List ℕ) × (ts : List Span) × Goes (Some p) n s ts
place_ends p n =
    let c = can_lead p.want p.around in
    let r = spell c.0 n (lead_words p.want p.around) in
    (r.0, r.1, record { ms = c.0; leads = c.1; spelled = r.2 })

open_goes_on : (l : WordState) (i : Bool) (held : List ℕ) → IsOpen l → cond (is_number l) None (mark_of l i held) ≡ None
open_goes_on (Open b) i held h = absurd h
open_goes_on (Close b) i held h = absurd h
open_goes_on Comma i held h = absurd h
open_goes_on Colon i held h = absurd h
open_goes_on (Literal n k) i held h = ap (λ t. cond t (Some (name n)) None) (ne_eqb k (length (spelling n)) (λ e. absurd (omega (arith, e, h))))
open_goes_on (Inside s) i held h = ap (option_map (text_mark i)) (open_string s held h)
open_goes_on Minus i held h = refl
open_goes_on Zero i held h = refl
open_goes_on Whole i held h = refl
open_goes_on Point i held h = refl
open_goes_on Fraction i held h = refl
open_goes_on Exponent i held h = refl
open_goes_on Sign i held h = refl
open_goes_on Power i held h = refl

-- some bytes complete the configuration to a text
abbrev pub Completes : Option Config → Type 0
Completes c = (s : List ℕ) × (ts : List Span) × (reads c s ≡ Some ts)

word_completes : (w : Word) (p : Place) (from n : ℕ) → IsSound (Some w) p → Completes (config (Some w) p from n)
word_completes w p from n h =
    let e = can_end w.state w.is_key w.held h.0 in
    let t = e.0 in
    let m = e.1 in
    let r = place_ends p (n + length t) in
    let s = r.0 in
    let ts = r.1 in
    let g = r.2 in
    let after : (held : List ℕ) → m ≡ digits held → p.want ≡ want.After = λ held d. ⊎_elim (λ y. h.1 y) (λ f. absurd (e.3 f held d)) (cases_Bool (is_number w.state)) in (
      t ++ s,
      with_token m from (n + length t) ts,
      sym (leaves_none (config (Some w) p from n) (t ++ s))
          ∙ ap (λ o. reads_out (whole o w p from n) (t ++ s)) (sym (open_goes_on w.state w.is_key w.held h.0))
          ∙ word_reads t w p from n m s ts e.2 (λ held d. follows p g.ms (n + length t) s ts (after held d) g.leads g.spelled) (goes_reads g.ms p (n + length t) s ts g.leads g.spelled),
    )

-- some bytes complete each configuration that is valid
pub completes_from : (w : Option Word) (p : Place) (from n : ℕ) → IsSound w p → Completes (config w p from n)
completes_from None p from n h =
    let r = place_ends p n in
    let all : reads (config None p from n) r.0 ≡ Some r.1 = goes_none r.0 r.1 r.2 in
    (r.0, r.1, all)
  where
    goes_none : (s : List ℕ) (ts : List Span) → Goes (Some p) n s ts → reads (config None p from n) s ≡ Some ts
    goes_none [] ts g = goes_reads g.ms p n [] ts g.leads g.spelled
    goes_none (b ∷ s) ts g = goes_reads g.ms p n (b ∷ s) ts g.leads g.spelled
completes_from (Some w) p from n h = word_completes w p from n h

-- a reader that has not failed can go on to a whole text
pub alive : (c : Config) (bytes : List ℕ) (ts : List Span) → Awaits (Some c) bytes ts → (s : List ℕ) × (others : List Span) × (j : Json) × IsTextWith j (bytes ++ s) (ts ++ others)
alive c bytes ts h =
    let r = completes_from c.word c.place c.from c.at h.valid in
    let t = (h.completes r.0 r.1).1 r.2 in
    (r.0, r.1, t.0, t.1)

-- one that has failed cannot
pub dead : (bytes : List ℕ) (ts : List Span) → Awaits None bytes ts → (s : List ℕ) (others : List Span) (j : Json) → IsTextWith j (bytes ++ s) (ts ++ others) → ⊥
dead bytes ts h s others j x = let r = (h.completes s others).0 (j, x) in absurd (cc (r))
