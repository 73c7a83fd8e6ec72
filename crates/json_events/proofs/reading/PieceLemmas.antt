-- What a piece of a list tells.
use Rattle.std.proofs.Common.{◌≡◌, ℕ, List, [], ◌∷◌, ◌++◌, ◌-◌, length, take, drop, Some, None, Ok, sym, ap, ◌∙◌, subst, append-nil, append_assoc}
use Rattle.std.specs.Option.{option_to_list}
use Rattle.std.proofs.Math.Seq.{take-length}
use Rattle.std.proofs.lemmas.List.{take-append-drop}
use Rattle.json_events.specs.declared.fault.JsonFault.{JsonFault}
use Rattle.json_events.specs.declared.token.Spanned.{Spanned}
use Rattle.json_events.specs.declared.token.Fed.{Fed}
use Rattle.json_events.specs.ReaderState.{ReaderState}
use Rattle.json_events.specs.ReaderAnswers.{FeedsOn, IsFeedFault}
use Rattle.json_events.specs.ReaderRuns.{HasTold, IsFirstFault}
use Rattle.json_events.proofs.reading.CallRuns.{told_more, told_fault}
use Rattle.json_events.proofs.reading.ReadLemmas.{rest_is}

-- a list with a piece in it, of which some was taken
piece_split : (before taken rest piece behind : List ℕ) → taken ++ rest ≡ piece
    → before ++ (piece ++ behind) ≡ (before ++ taken) ++ (rest ++ behind)
piece_split before taken rest piece behind e =
    ap (λ (l : List ℕ). before ++ (l ++ behind)) (sym e)
    ∙ ap (λ (l : List ℕ). before ++ l) (append_assoc taken rest behind)
    ∙ sym (append_assoc before taken (rest ++ behind))

-- one call
piece_told : (old new : ReaderState) (before taken rest piece behind : List ℕ) (told : List Spanned) (fed : Fed)
    → taken ++ rest ≡ piece → HasTold old (before ++ (piece ++ behind)) (before ++ taken) told
    → FeedsOn old new rest (Ok fed) → new.fault ≡ None
    → HasTold new (before ++ (piece ++ behind)) (before ++ (taken ++ take fed.taken rest)) (told ++ option_to_list fed.token)
piece_told old new before taken rest piece behind told fed e h on fresh =
    let all = before ++ (piece ++ behind) in
    let split = piece_split before taken rest piece behind e in
    subst (λ (l : List ℕ). HasTold new all l (told ++ option_to_list fed.token))
    (append_assoc before taken (take fed.taken rest))
    (told_more old new all (before ++ taken) rest behind told fed split h on fresh)

-- one that gives a token
pub piece_goes_on : (old new : ReaderState) (before taken rest piece behind : List ℕ) (told more : List Spanned) (fed : Fed) (token : Spanned)
    → taken ++ rest ≡ piece → fed.token ≡ Some token → more ≡ told ++ token ∷ []
    → HasTold old (before ++ (piece ++ behind)) (before ++ taken) told → FeedsOn old new rest (Ok fed) → new.fault ≡ None
    → HasTold new (before ++ (piece ++ behind)) (before ++ (taken ++ take fed.taken rest)) more
piece_goes_on old new before taken rest piece behind told more fed token e given m h on fresh =
    let all = before ++ (piece ++ behind) in
    let now = piece_told old new before taken rest piece behind told fed e h on fresh in
    subst (HasTold new all (before ++ (taken ++ take fed.taken rest)))
    (ap (λ o. told ++ option_to_list o) given ∙ sym m) now

-- one that gives none and has taken all
pub piece_ends : (old new : ReaderState) (before taken rest piece behind : List ℕ) (told : List Spanned) (fed : Fed)
    → taken ++ rest ≡ piece → fed.token ≡ None → fed.taken ≡ length rest
    → HasTold old (before ++ (piece ++ behind)) (before ++ taken) told → FeedsOn old new rest (Ok fed) → new.fault ≡ None
    → HasTold new (before ++ (piece ++ behind)) (before ++ piece) told
piece_ends old new before taken rest piece behind told fed e none all_taken h on fresh =
    let all = before ++ (piece ++ behind) in
    let now = piece_told old new before taken rest piece behind told fed e h on fresh in
    let same : before ++ (taken ++ take fed.taken rest) ≡ before ++ piece =
    ap (λ n. before ++ (taken ++ take n rest)) all_taken
    ∙ ap (λ (l : List ℕ). before ++ (taken ++ l)) (take-length rest) ∙ ap (λ (l : List ℕ). before ++ l) e in
    subst (λ (l : List ℕ). HasTold new all l told) same
    (subst (HasTold new all (before ++ (taken ++ take fed.taken rest))) (ap (λ o. told ++ option_to_list o) none ∙ append-nil told) now)

-- one that refuses
pub piece_refused : (old : ReaderState) (before taken rest piece behind : List ℕ) (told : List Spanned) (f : JsonFault)
    → taken ++ rest ≡ piece → HasTold old (before ++ (piece ++ behind)) (before ++ taken) told
    → (old.fault ≡ None → IsFeedFault f old rest) → IsFirstFault f (before ++ (piece ++ behind)) told
piece_refused old before taken rest piece behind told f e h faulty =
    told_fault old (before ++ (piece ++ behind)) (before ++ taken) rest behind told f
    (piece_split before taken rest piece behind e) h faulty

-- what is left of a piece
pub piece_left : (taken rest piece : List ℕ) (n : ℕ) → taken ++ rest ≡ piece
    → (taken ++ take n rest) ++ take (length rest - n) (drop n rest) ≡ piece
piece_left taken rest piece n e =
    append_assoc taken (take n rest) (take (length rest - n) (drop n rest))
    ∙ ap (λ (l : List ℕ). taken ++ (take n rest ++ l)) (rest_is rest n)
    ∙ ap (λ (l : List ℕ). taken ++ l) (take-append-drop n rest) ∙ e
