-- From one call of a reader to a run of calls: what is told is what the whole list tells, however it is cut.
use Rattle.std.proofs.Common.{◌≡◌, ◌++◌, ◌+◌, ℕ, suc, zero, ◌<◌, List, [], ◌∷◌, length, take, drop, get_or}
use Rattle.std.proofs.Common.{Err, sym, ap, ◌∙◌, subst, arith, append-nil, append_assoc}
use Rattle.std.proofs.lemmas.List.{take_more}
use Rattle.std.proofs.lemmas.List.Folds.{concat-append}
use Rattle.std.specs.List.{concat}
use Rattle.base.specs.Extends.{Extends}
use Rattle.base.specs.PiecewiseReading.{PieceReader, FeedCall, taken_in, taken_in_all, told_by_all, IsRun}
use Rattle.base.specs.PiecewiseReading.{AddsTaken, RefusesFirst}

-- where each call adds what it took and told, so does a run of calls
pub run_stands : {S A F W : Type 0} (r : PieceReader S A F W) (Stands : S → List ℕ → W → Type 0) → AddsTaken r Stands
    → (old new : S) (before : List ℕ) (told : W) (calls : List (FeedCall A)) → Stands old before told
    → IsRun r old calls new → Stands new (before ++ taken_in_all r.taken calls) (told_by_all r told calls)
run_stands {S} {A} {F} {W} r Stands adds old new before told [] s run =
    subst (λ (bytes : List ℕ). Stands new bytes told) (sym (append-nil before))
    (subst (λ (state : S). Stands state before told) run s)
run_stands {S} {A} {F} {W} r Stands adds old new before told (call ∷ calls) s run =
    let next = adds old run.0 before call.bytes told call.fed s run.1 in
    let all = run_stands r Stands adds run.0 new _ _ calls next run.2 in
    subst (λ (bytes : List ℕ). Stands new bytes (told_by_all r told (call ∷ calls)))
    (append_assoc before (taken_in r.taken call) (taken_in_all r.taken calls)) all

-- the first refusal behind a run is the first fault of the whole list, of which all was told by then
pub run_refused : {S A F W : Type 0} (r : PieceReader S A F W) (Stands : S → List ℕ → W → Type 0)
    (IsFirst : List ℕ → W → F → Type 0) → AddsTaken r Stands → RefusesFirst r Stands IsFirst
    → (old new last : S) (told : W) (calls : List (FeedCall A)) (bytes more : List ℕ) (fault : F)
    → Stands old [] told → IsRun r old calls new → r.Step new bytes (Err fault) last
    → IsFirst (taken_in_all r.taken calls ++ (bytes ++ more)) (told_by_all r told calls) fault
run_refused {S} {A} {F} {W} r Stands IsFirst adds refuses old new last told calls bytes more fault s run step =
    let stands = run_stands r Stands adds old new [] told calls s run in
    refuses new last (taken_in_all r.taken calls) bytes more (told_by_all r told calls) fault stands step

-- what a run told is the front of what the whole list tells, where a state has told what its bytes tell, and
-- more bytes tell only more
pub run_front : {S A F T : Type 0} (r : PieceReader S A F (List T)) (Stands : S → List ℕ → List T → Type 0)
    (whole : List ℕ → List T) → AddsTaken r Stands
    → ((state : S) (bytes : List ℕ) (told : List T) → Stands state bytes told → told ≡ whole bytes)
    → ((bytes more : List ℕ) → Extends (whole bytes) (whole (bytes ++ more)))
    → (old new : S) (told : List T) (calls : List (FeedCall A)) (more : List ℕ) → Stands old [] told
    → IsRun r old calls new → Extends (told_by_all r told calls) (whole (taken_in_all r.taken calls ++ more))
run_front {S} {A} {F} {T} r Stands whole adds exact grows old new told calls more s run =
    let stands = run_stands r Stands adds old new [] told calls s run in
    subst (λ (list : List T). Extends list (whole (taken_in_all r.taken calls ++ more)))
    (sym (exact new (taken_in_all r.taken calls) (told_by_all r told calls) stands))
    (grows (taken_in_all r.taken calls) more)

-- two runs that took the same bytes were told the same, where a state has told what its bytes tell
pub runs_agree : {S A F W : Type 0} (r : PieceReader S A F W) (Stands : S → List ℕ → W → Type 0)
    (whole : List ℕ → W) → AddsTaken r Stands
    → ((state : S) (bytes : List ℕ) (told : W) → Stands state bytes told → told ≡ whole bytes)
    → (old new other : S) (told : W) (calls others : List (FeedCall A)) → Stands old [] told
    → IsRun r old calls new → IsRun r old others other
    → taken_in_all r.taken calls ≡ taken_in_all r.taken others → told_by_all r told calls ≡ told_by_all r told others
runs_agree {S} {A} {F} {W} r Stands whole adds exact old new other told calls others s one two same =
    let first = run_stands r Stands adds old new [] told calls s one in
    let second = run_stands r Stands adds old other [] told others s two in
    exact new (taken_in_all r.taken calls) (told_by_all r told calls) first
    ∙ ap whole same ∙ sym (exact other (taken_in_all r.taken others) (told_by_all r told others) second)

-- the pieces before one, that one, and the others
pub concat_at : (pieces : List (List ℕ)) (i : ℕ) (piece : List ℕ) → i < length pieces → piece ≡ get_or pieces i piece
    → concat (take i pieces) ++ (piece ++ concat (drop (suc i) pieces)) ≡ concat pieces
concat_at [] i piece h e = absurd (omega arith)
concat_at (x ∷ xs) zero piece h e = ap (λ (y : List ℕ). y ++ concat xs) e
concat_at (x ∷ xs) (suc i) piece h e =
    append_assoc x (concat (take i xs)) (piece ++ concat (drop (suc i) xs))
    ∙ ap (λ (y : List ℕ). x ++ y) (concat_at xs i piece (omega arith) e)

-- one piece more
pub concat_more : (pieces : List (List ℕ)) (i : ℕ) (piece : List ℕ) → i < length pieces
    → piece ≡ get_or pieces i piece → concat (take (i + 1) pieces) ≡ concat (take i pieces) ++ piece
concat_more pieces i piece h e =
    ap concat (take_more pieces i piece h) ∙ concat-append (take i pieces) (get_or pieces i piece ∷ [])
    ∙ ap (λ (y : List ℕ). concat (take i pieces) ++ y) (append-nil (get_or pieces i piece) ∙ sym e)
