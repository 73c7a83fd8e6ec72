-- Pieces of lists.
use Rattle.std.proofs.Common.{◌≡◌, ◌++◌, ◌+◌, ◌-◌, ℕ, List, length, take, drop, ap, sym, ◌∙◌, arith, append_assoc, Option, Some, None}
use Rattle.std.proofs.Math.Seq.{take-add}
use Rattle.std.proofs.lemmas.List.{take_at, take-append-drop, drop-drop}
use Rattle.gate_world.specs.Sinks.{AddsTold, Gains, written_after}
use Rattle.gate_world.specs.declared.sink.Wrote.{Wrote}
use Rattle.gate_world.specs.declared.sink.Wrote.TheVariants.{Taken, Failed}

-- a piece that was copied to the front of another stands before what was left behind it
pub piece_taken : (xs cs rest : List ℕ) (a n : ℕ) → cs ≡ take (a + n - a) (drop a xs) → length cs ≡ n → drop a xs ≡ take n (cs ++ rest) ++ drop (a + n) xs
piece_taken xs cs rest a n h l =
    let m : a + n - a ≡ n = omega arith in
    let c : cs ≡ take n (drop a xs) = rw m at h in
    rw (take_at cs rest n l, c, ← drop-drop n a xs) (sym (take-append-drop n (drop a xs)))

-- one more piece was written
pub gains_more : (old mid new : Option (List ℕ)) (all piece : List ℕ) (done n : ℕ) (w : Wrote) → Gains old mid (take done all) → piece ≡ drop done all → w ≡ Taken n → AddsTold mid new w piece → Gains old new (take (done + n) all)
gains_more None mid new all piece done n w g p e a = tt
gains_more (Some old) None new all piece done n w g p e a = absurd (cc)
gains_more (Some old) (Some mid) new all piece done n w g p e a =
    let m : mid ≡ old ++ take done all = cc in
    a ∙ ap (λ x. Some (written_after x mid piece)) e ∙ ap (λ x. Some (x ++ take n piece)) m
    ∙ ap (λ x. Some ((old ++ take done all) ++ take n x)) p
    ∙ ap (λ x. Some x) (append_assoc old (take done all) (take n (drop done all)) ∙ ap (λ x. old ++ x) (sym (take-add done n all)))

-- a write that failed adds nothing
pub gains_same : (old mid new : Option (List ℕ)) (bytes piece : List ℕ) (w : Wrote) → Gains old mid bytes → w ≡ Failed → AddsTold mid new w piece → Gains old new bytes
gains_same None mid new bytes piece w g e a = tt
gains_same (Some old) None new bytes piece w g e a = absurd (cc)
gains_same (Some old) (Some mid) new bytes piece w g e a = a ∙ ap (λ x. Some (written_after x mid piece)) e ∙ g
