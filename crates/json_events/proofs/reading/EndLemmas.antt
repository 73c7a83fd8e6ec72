-- What a reader says at the end of what came.
use Rattle.std.proofs.Common.{◌≡◌, ℕ, ◌≤◌, false, List, [], ◌∷◌, ◌++◌, length, take, Option, Some, None, refl, sym, ap, ◌∙◌, subst, arith}
use Rattle.std.specs.Option.{IfSome}
use Rattle.std.proofs.lemmas.List.{append-nil}
use Rattle.std.proofs.Math.Seq.{take-length}
use Rattle.json_events.specs.declared.state.WordState.{WordState}
use Rattle.json_events.specs.declared.fault.JsonFault.TheVariants as fault
use Rattle.json_events.specs.declared.token.Spanned.{Spanned}
use Rattle.json_events.specs.JsonTree.{Json, Mark, digits}
use Rattle.json_events.specs.JsonText.{Span, with_token, IsTextWith}
use Rattle.json_events.specs.WordSteps.{Word, mark_of}
use Rattle.json_events.specs.NestingSteps.{Place}
use Rattle.json_events.specs.ReadingSteps.{Config, reads, end_word, end_from, if_done, gap}
use Rattle.json_events.specs.ReadingMoves.{number_ends}
use Rattle.json_events.specs.JsonTokens.{BeginsWith, IsNoTextWith, NoOtherHasEnded, level_in, level_limit, IsValid, Awaits}
use Rattle.base.specs.Saturated.{saturated}
use Rattle.json_events.specs.ReaderState.{Reading, IsReadable, StandsFor, IsCut}
use Rattle.json_events.specs.ReaderAnswers.{mark_seen, IsGiven, StandsOn, IsWholeWith, IsNotWhole}
use Rattle.json_events.specs.ProgressSeen.{started}
use Rattle.json_events.proofs.reading.FeedLemmas.{move, number_given}
use Rattle.json_events.proofs.reading.StandLemmas.{seen, word_of, seen_valid, awaits_seen, stands_alive, stands_alone, moved_stands}

-- nothing is to come
whole_text : (c : Option Config) (xs : List Span) (b : List ℕ) (ts : List Span) → reads c [] ≡ Some xs → Awaits c b ts → (j : Json) × IsTextWith j b (ts ++ xs)
whole_text c xs b ts e h = let r = (h.completes [] xs).1 e in (r.0, subst (λ (l : List ℕ). IsTextWith r.0 l (ts ++ xs)) (append-nil b) r.1)

no_text : (c : Option Config) (b : List ℕ) (ts : List Span) → reads c [] ≡ None → Awaits c b ts → IsNoTextWith b ts
no_text c b ts e h j others x =
    let r = (h.completes [] others).0 (j, subst (λ (l : List ℕ). IsTextWith j l (ts ++ others)) (sym (append-nil b)) x) in
    absurd (cc (r, e))

-- all bytes begin a text and are none
cut_at_end : (b : List ℕ) (ts : List Span) → BeginsWith b ts → NoOtherHasEnded b ts → IsNoTextWith b ts → IsCut b ts (length b)
cut_at_end b ts alive no_other dead =
    let all : b ≡ take (length b) b = sym (take-length b) in
    record {
      within = omega arith;
      alive = subst (λ (l : List ℕ). BeginsWith l ts) all alive;
      no_other = subst (λ (l : List ℕ). NoOtherHasEnded l ts) all no_other;
      dead = subst (λ (l : List ℕ). IsNoTextWith l ts) all dead;
    }

-- the reader is not at the end of a text
not_whole : (r : Reading) → ((from at : ℕ) → reads (Some (seen r from at)) [] ≡ None) → IsNotWhole (StandsFor r) (fault.Syntax r.at)
not_whole r e b ts h =
    (ap fault.Syntax h.at_is, cut_at_end b ts (stands_alive r b ts h) (stands_alone r b ts h) (no_text (Some (seen r h.start (length b))) b ts (e h.start (length b)) (awaits_seen r b ts h)))

not_done : (w : Option Word) (p : Place) (from at : ℕ) → ((xs : List Span) → if_done p.want p.around xs ≡ None) → end_from w p from at ≡ None
not_done None p from at h = h []
not_done (Some w) p from at h = by_mark (mark_of w.state w.is_key w.held)
  where
    by_mark : (m : Option Mark) → end_word m p from at ≡ None
    by_mark None = refl
    by_mark (Some m) = h (with_token m from at [])

-- the place is not the end of a text
pub end_not_done : (r : Reading) → ((xs : List Span) → if_done r.place.want r.place.around xs ≡ None) → IsNotWhole (StandsFor r) (fault.Syntax r.at)
end_not_done r h = not_whole r (λ from at. not_done (word_of r.word r.is_key r.held) r.place (started r.word from at) at h)

-- a word that is not whole
pub end_open : (r : Reading) (l : WordState) → r.word ≡ Some l → mark_of l r.is_key r.held ≡ None → IsNotWhole (StandsFor r) (fault.Syntax r.at)
end_open r l e h = not_whole r (λ from at.
    ap (λ w. end_from (word_of w r.is_key r.held) r.place (started w from at) at) e ∙ ap (λ m. end_word m r.place from at) h)

-- no word has begun
pub end_gap : (r : Reading) → r.word ≡ None → if_done r.place.want r.place.around [] ≡ Some [] → IsWholeWith (StandsFor r) None
end_gap r e h b ts s =
    let done : reads (Some (seen r s.start (length b))) [] ≡ Some [] = ap (λ w. end_from (word_of w r.is_key r.held) r.place (started w s.start (length b)) (length b)) e ∙ h in
    let t = whole_text (Some (seen r s.start (length b))) [] b ts done (awaits_seen r b ts s) in
    ([], refl, t.0, t.1)

abbrev token_at : Spanned → ℕ → ℕ → Span
token_at s from to = record { mark = mark_seen s.token; from = from; to = to }

token_is : (s : Spanned) (held : List ℕ) (from to : ℕ) → mark_seen s.token ≡ digits held → with_token (digits held) from to [] ≡ token_at s from to ∷ []
token_is s held from to e = ap (λ m. record { mark = m; from = from; to = to } ∷ []) (sym e)

given_is : (r : Reading) (l : WordState) (token : Spanned) (b : List ℕ) (ts : List Span) (s : StandsFor r b ts) → r.word ≡ Some l → token.from ≡ r.from → token.to ≡ r.at → IsGiven (Some token) (token_at token s.start (length b) ∷ []) (length b)
given_is r l token b ts s e from_is to_is =
    let began : r.from ≡ saturated s.start = subst (λ w. IfSome w (λ _. r.from ≡ saturated s.start)) e s.from_is in
    (token_at token s.start (length b), refl, record { mark = refl; from = from_is ∙ began; to = to_is ∙ s.at_is }, refl)

-- a number that ends there
pub end_number : (r : Reading) (l : WordState) (token : Spanned) → r.word ≡ Some l → mark_of l r.is_key r.held ≡ Some (digits r.held) → ((xs : List Span) → if_done r.place.want r.place.around xs ≡ Some xs)
    → mark_seen token.token ≡ digits r.held → token.from ≡ r.from → token.to ≡ r.at → IsWholeWith (StandsFor r) (Some token)
end_number r l token e m done t from_is to_is b ts s =
    let n = length b in
    let given = token_at token s.start n ∷ [] in
    let ends : reads (Some (seen r s.start n)) [] ≡ Some given =
    ap (λ w. end_from (word_of w r.is_key r.held) r.place (started w s.start n) n) e
    ∙ ap (λ o. end_word o r.place s.start n) m
    ∙ done (with_token (digits r.held) s.start n [])
    ∙ ap Some (token_is token r.held s.start n t) in
    let text = whole_text (Some (seen r s.start n)) given b ts ends (awaits_seen r b ts s) in
    (given, given_is r l token b ts s e from_is to_is, text.0, text.1)

-- and the reader goes on behind it
pub end_stands : (r new : Reading) (l : WordState) (token : Spanned) → IsReadable r → r.word ≡ Some l → mark_of l r.is_key r.held ≡ Some (digits r.held)
    → mark_seen token.token ≡ digits r.held → token.from ≡ r.from → token.to ≡ r.at → new.word ≡ None → new.place ≡ r.place → new.at ≡ r.at → StandsOn r new [] (Some token)
end_stands r new l token v e m t from_is to_is gone place_is at_is b ts s =
    let n = length b in
    let given = token_at token s.start n ∷ [] in
    let w : Word = record { state = l; is_key = r.is_key; held = r.held } in
    let old_is : seen r s.start n ≡ record { word = Some w; place = r.place; from = s.start; at = n } = ap (λ o. record { word = word_of o r.is_key r.held; place = r.place; from = started o s.start n; at = n }) e in
    let new_is : gap r.place n ≡ Some (seen new s.start n) =
    ap (λ p. gap p n) (sym place_is) ∙ ap (λ o. Some (record { word = word_of o new.is_key new.held; place = new.place; from = started o s.start n; at = n })) (sym gone) in
    let valid = subst (λ c. IsValid (Some c)) old_is (seen_valid r s.start n v) in
    let moves : move (gap r.place n) false given ≡ number_ends (Some (digits r.held)) r.place s.start n = ap (λ xs. move (gap r.place n) false xs) (sym (token_is token r.held s.start n t)) in
    let waits = subst (λ c. Awaits (Some c) b ts) old_is (awaits_seen r b ts s) in
    let next = (number_given w r.place s.start n (gap r.place n) given valid (Some (digits r.held)) m moves).0 b ts waits in
    let there : Awaits (Some (seen new s.start n)) (b ++ []) (ts ++ given) = subst (λ c. Awaits c (b ++ []) (ts ++ given)) new_is next in
    let same : b ++ [] ≡ b = append-nil b in
    let deep : level_in new.place.want new.place.around ≤ level_limit = subst (λ p. level_in p.want p.around ≤ level_limit) (sym place_is) v.shallow in
    let nothing : IfSome new.word (λ _. new.from ≡ saturated s.start) = subst (λ w. IfSome w (λ _. new.from ≡ saturated s.start)) (sym gone) tt in (
      given,
      subst (λ (x : List ℕ). IsGiven (Some token) given (length x)) (sym same) (given_is r l token b ts s e from_is to_is),
      subst (λ (x : List ℕ). StandsFor new x (ts ++ given)) (sym same) (moved_stands new s.start b (ts ++ given) deep nothing (at_is ∙ s.at_is) (subst (λ (x : List ℕ). Awaits (Some (seen new s.start n)) x (ts ++ given)) same there)),
    )
