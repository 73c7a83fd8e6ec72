-- A run of bytes that stand for themselves in a string.
use Rattle.std.proofs.Common.{◌≡◌, ℕ, suc, ◌+◌, ◌-◌, ◌<◌, ◌≤◌, ◌^◌, Bool, true, List, [], ◌∷◌, ◌++◌, length, Option, Some, None, refl, sym, ap, ◌∙◌, subst, arith, append_assoc}
use Rattle.std.specs.Prelude.{option_map}
use Rattle.std.specs.Str.{IsUtf8}
use Rattle.std.specs.List.{list_all}
use Rattle.std.proofs.lemmas.List.{append-nil, length-append}
use Rattle.std.proofs.lemmas.Bool.{and_parts}
use Rattle.std.proofs.lemmas.Str.{IsUtf8-append}
use Rattle.json_events.specs.declared.state.StringState.TheVariants.{Plain}
use Rattle.json_events.specs.declared.state.WordState.{WordState}
use Rattle.json_events.specs.declared.state.WordState.TheVariants.{Inside}
use Rattle.json_events.specs.declared.step.Step.TheVariants as step
use Rattle.json_events.specs.StringSteps.{is_plain, string_adds}
use Rattle.json_events.specs.NestingSteps.{Place}
use Rattle.json_events.specs.ReadingMoves.{moved_word, moved_at}
use Rattle.json_events.specs.WordSteps.{Word, more}
use Rattle.json_events.specs.JsonText.{Span}
use Rattle.json_events.specs.HeldWords.{HoldsOnly}
use Rattle.json_events.specs.JsonTokens.{level_in, level_limit}
use Rattle.base.specs.Saturated.{saturated}
use Rattle.json_events.specs.ReaderState.{Reading, config_at, KeepsLess, IsReadable, StandsFor}
use Rattle.json_events.specs.ReaderAnswers.{IsGiven, StandsOn}
use Rattle.json_events.specs.ProgressSeen.{started, step_seen}
use Rattle.json_events.proofs.strings.StringRuns.{plain_more, plain_adds}
use Rattle.json_events.proofs.reading.HeldText.{ascii_utf8, plain_small}
use Rattle.json_events.proofs.reading.StandLemmas.{step_stands, on_then, on_nothing}

-- inside a string, between two characters
abbrev plain : Bool → List ℕ → Place → ℕ → ℕ → Reading
plain in_key held p from at = record { word = Some (Inside Plain); is_key = in_key; held = held; place = p; from = from; at = at }

plain_moves : (in_key : Bool) (held : List ℕ) (p : Place) (start count b : ℕ) → is_plain b ≡ true → (from at : ℕ)
    → step_seen step.Takes (plain in_key (held ++ b ∷ []) p start (saturated (count + 1))) (started (Some (Inside Plain)) from at) at ≡ moved_at (config_at (plain in_key held p start count) from at) b
plain_moves in_key held p start count b h from at =
    let w : Word = record { state = Inside Plain; is_key = in_key; held = held } in
    let goes : more w b ≡ Some (record { state = Inside Plain; is_key = in_key; held = held ++ b ∷ [] }) =
    ap (λ o. option_map (λ l. record { state = l; is_key = in_key; held = held ++ string_adds Plain b }) (option_map Inside o)) (plain_more b h)
    ∙ ap (λ x. Some (record { state = Inside Plain; is_key = in_key; held = held ++ x })) (plain_adds b h) in
    sym (ap (λ o. moved_word o w p from at b) goes)

one_more : (n k : ℕ) → saturated (saturated (n + 1) + k) ≡ saturated (n + suc k)
one_more n k = omega arith

-- none of them
none_on : (in_key : Bool) (held : List ℕ) (p : Place) (from at : ℕ) → StandsOn (plain in_key held p from at) (plain in_key (held ++ []) p from (saturated (at + 0))) [] None
none_on in_key held p from at b ts h =
    let same : at ≡ saturated (at + 0) = omega (arith, h.at_is) in
    subst (λ n. (given : List Span) × IsGiven None given (length (b ++ [])) × StandsFor (plain in_key (held ++ []) p from n) (b ++ []) (ts ++ given)) same
    (subst (λ (l : List ℕ). (given : List Span) × IsGiven None given (length (b ++ [])) × StandsFor (plain in_key l p from at) (b ++ []) (ts ++ given)) (sym (append-nil held)) (on_nothing (plain in_key held p from at) b ts h))

keeps_next : (held : List ℕ) (b from at : ℕ) → (at < 2 ^ 64 - 1 → from + length held + 1 ≤ at) → saturated (at + 1) < 2 ^ 64 - 1 → from + length (held ++ b ∷ []) + 1 ≤ saturated (at + 1)
keeps_next held b from at k h =
    let below : at < 2 ^ 64 - 1 = omega (arith, h) in
    omega (arith, h, k below, length-append held (b ∷ []))

-- the reader that takes them keeps them
plain_on : (xs : List ℕ) (in_key : Bool) (held : List ℕ) (p : Place) (from at : ℕ) → (at < 2 ^ 64 - 1 → from + length held + 1 ≤ at) → IsUtf8 held → level_in p.want p.around ≤ level_limit → list_all is_plain xs ≡ true → StandsOn (plain in_key held p from at) (plain in_key (held ++ xs) p from (saturated (at + length xs))) xs None
plain_on [] in_key held p from at k u deep h = none_on in_key held p from at
plain_on (b ∷ xs) in_key held p from at k u deep h =
    let both = and_parts (is_plain b) (list_all is_plain xs) h in
    let utf8 = IsUtf8-append held (b ∷ []) u (ascii_utf8 b (plain_small b both.0)) in
    let mid = plain in_key (held ++ b ∷ []) p from (saturated (at + 1)) in
    let first = step_stands (plain in_key held p from at) mid b step.Takes (record { word = (tt, (λ e. absurd (cc (e)))); holds = u; kept = k; shallow = deep }) deep (plain_moves in_key held p from at b both.0) refl refl tt in
    let others = plain_on xs in_key (held ++ b ∷ []) p from (saturated (at + 1)) (keeps_next held b from at k) utf8 deep both.1 in
    let all = on_then (plain in_key held p from at) mid _ (b ∷ []) xs None first others in
    subst (λ n. StandsOn (plain in_key held p from at) (plain in_key (held ++ b ∷ xs) p from n) (b ∷ xs) None) (one_more at (length xs))
    (subst (λ (l : List ℕ). StandsOn (plain in_key held p from at) (plain in_key l p from (saturated (saturated (at + 1) + length xs))) (b ∷ xs) None) (append_assoc held (b ∷ []) xs) all)

plain_utf8 : (xs held : List ℕ) → list_all is_plain xs ≡ true → IsUtf8 held → IsUtf8 (held ++ xs)
plain_utf8 [] held h u = subst (λ (l : List ℕ). IsUtf8 l) (sym (append-nil held)) u
plain_utf8 (b ∷ xs) held h u =
    let both = and_parts (is_plain b) (list_all is_plain xs) h in
    subst (λ (l : List ℕ). IsUtf8 l) (append_assoc held (b ∷ []) xs) (plain_utf8 xs (held ++ b ∷ []) both.1 (IsUtf8-append held (b ∷ []) u (ascii_utf8 b (plain_small b both.0))))

-- the reader behind them
abbrev pub behind : Reading → Option WordState → List ℕ → ℕ → Reading
behind r w held at = record { word = w; is_key = r.is_key; held = held; place = r.place; from = r.from; at = at }

-- the reader behind such a run stands for it
pub passed_on : (r : Reading) (xs held : List ℕ) (at : ℕ) → r.word ≡ Some (Inside Plain) → IsReadable r → list_all is_plain xs ≡ true → held ≡ r.held ++ xs → at ≡ saturated (r.at + length xs) → StandsOn r (behind r r.word held at) xs None
passed_on r xs held at e v h held_is at_is =
    let utf8 : IsUtf8 r.held = subst (λ w. HoldsOnly w r.held) e v.holds in
    let kept : r.at < 2 ^ 64 - 1 → r.from + length r.held + 1 ≤ r.at = subst (λ w. KeepsLess w r.held r.from r.at) e v.kept in
    let all = plain_on xs r.is_key r.held r.place r.from r.at kept utf8 v.shallow h in
    subst (λ w. StandsOn (behind r w r.held r.at) (behind r w held at) xs None) (sym e)
    (subst (λ (l : List ℕ). StandsOn (plain r.is_key r.held r.place r.from r.at) (plain r.is_key l r.place r.from at) xs None) (sym held_is)
    (subst (λ n. StandsOn (plain r.is_key r.held r.place r.from r.at) (plain r.is_key (r.held ++ xs) r.place r.from n) xs None) (sym at_is) all))

keeps_run : (r : Reading) (xs held : List ℕ) (at : ℕ) → (r.at < 2 ^ 64 - 1 → r.from + length r.held + 1 ≤ r.at) → held ≡ r.held ++ xs → at ≡ saturated (r.at + length xs) → at < 2 ^ 64 - 1 → r.from + length held + 1 ≤ at
keeps_run r xs held at k held_is at_is h =
    let below : r.at < 2 ^ 64 - 1 = omega (arith, h, at_is) in
    omega (arith, h, at_is, k below, ap length held_is, length-append r.held xs)

-- and it can go on
pub passed_readable : (r : Reading) (xs held : List ℕ) (at : ℕ) → r.word ≡ Some (Inside Plain) → IsReadable r → list_all is_plain xs ≡ true → held ≡ r.held ++ xs → at ≡ saturated (r.at + length xs) → IsReadable (behind r r.word held at)
passed_readable r xs held at e v h held_is at_is =
    let utf8 : IsUtf8 r.held = subst (λ w. HoldsOnly w r.held) e v.holds in
    let kept : r.at < 2 ^ 64 - 1 → r.from + length r.held + 1 ≤ r.at = subst (λ w. KeepsLess w r.held r.from r.at) e v.kept in
    subst (λ w. IsReadable (behind r w held at)) (sym e) (record {
      word = (tt, (λ x. absurd (cc (x))));
      holds = subst (λ (l : List ℕ). IsUtf8 l) (sym held_is) (plain_utf8 xs r.held h utf8);
      kept = keeps_run r xs held at kept held_is at_is;
      shallow = v.shallow;
    })
