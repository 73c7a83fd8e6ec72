-- The front of a file, read piece by piece.
use Rattle.std.proofs.Common.{◌≡◌, ◌<◌, ◌≤◌, ◌+◌, ◌++◌, ℕ, List, length, take, drop, Option, Some, None, IfSome, subst, sym, ap, ◌∙◌, arith, length-append}
use Rattle.std.proofs.Math.Seq.{take-add}
use Rattle.std.proofs.lemmas.List.{take_all, take-append-le, length-take-le}
use Rattle.gate_world.specs.Sources.{ReadsAt}
use Rattle.gate_world.specs.ToldFiles.{FileMap, IsMissing}
use Rattle.gate_world.specs.declared.source.Read.{Read}
use Rattle.gate_world.specs.declared.source.Read.TheVariants as read

front_of : (file bytes more piece rest : List ℕ) (n : ℕ) → bytes ≡ take (length bytes) file → (take n piece ≡ take n (drop (length bytes) file)) → n ≤ length piece → more ≡ bytes ++ take n (piece ++ rest) → more ≡ take (length more) file
front_of file bytes more piece rest n b p l m =
    let grown : more ≡ bytes ++ take n piece = m ∙ ap (λ z. bytes ++ z) (take-append-le n piece rest l) in
    let size : length more ≡ length bytes + n = ap length grown ∙ length-append bytes (take n piece) ∙ ap (λ z. length bytes + z) (length-take-le n piece l) in
    grown ∙ ap (λ z. bytes ++ z) p ∙ ap (λ z. z ++ take n (drop (length bytes) file)) b ∙ sym (take-add (length bytes) n file) ∙ ap (λ z. take z file) (sym size)

-- a piece that was read goes on with the front
pub goes_on : (told was : Option (List ℕ)) (bytes more piece rest : List ℕ) (n from : ℕ) (r : Read) → was ≡ told → IfSome told (λ file. bytes ≡ take (length bytes) file) → IfSome was (λ file. ReadsAt file from r piece)
    → r ≡ read.Bytes n → from ≡ length bytes → n ≤ length piece → more ≡ bytes ++ take n (piece ++ rest) → IfSome told (λ file. more ≡ take (length more) file)
goes_on None was bytes more piece rest n from r e f a b i l m = tt
goes_on (Some file) None bytes more piece rest n from r e f a b i l m = absurd (cc (e))
goes_on (Some file) (Some g) bytes more piece rest n from r e f a b i l m =
    let same : g ≡ file = cc (e) in
    let there : ReadsAt file (length bytes) (read.Bytes n) piece = subst (λ z. ReadsAt z (length bytes) (read.Bytes n) piece) same (subst (λ z. ReadsAt g z (read.Bytes n) piece) i (subst (λ z. ReadsAt g from z piece) b a)) in
    front_of file bytes more piece rest n f there.0 l m

-- where the end came, the front is the file
pub whole : (told was : Option (List ℕ)) (bytes piece : List ℕ) (from : ℕ) (r : Read) → was ≡ told → IfSome told (λ file. bytes ≡ take (length bytes) file) → IfSome was (λ file. ReadsAt file from r piece)
    → r ≡ read.End → from ≡ length bytes → 0 < length piece → length bytes ≤ 16777217 → IfSome told (λ file. bytes ≡ take 16777217 file)
whole None was bytes piece from r e f a b i l m = tt
whole (Some file) None bytes piece from r e f a b i l m = absurd (cc (e))
whole (Some file) (Some g) bytes piece from r e f a b i l m =
    let same : g ≡ file = cc (e) in
    let there : ReadsAt file (length bytes) read.End piece = subst (λ z. ReadsAt z (length bytes) read.End piece) same (subst (λ z. ReadsAt g z read.End piece) i (subst (λ z. ReadsAt g from z piece) b a)) in
    let short : length file ≤ length bytes = there l in
    f ∙ take_all (length bytes) file short ∙ sym (take_all 16777217 file (omega (arith, short, m)))

-- where so many bytes were read, they are the front
pub full : (told : Option (List ℕ)) (bytes : List ℕ) → IfSome told (λ file. bytes ≡ take (length bytes) file) → length bytes ≡ 16777217 → IfSome told (λ file. bytes ≡ take 16777217 file)
full None bytes f e = tt
full (Some file) bytes f e = f ∙ ap (λ z. take z file) e

-- where files are told as before, a read that did not fail read a file that is not missing
pub was_there : (told was : Option FileMap) (path : List ℕ) (r : Read) → was ≡ told → (IsMissing was path → r ≡ read.Failed) → (r ≡ read.Failed → ⊥) → IsMissing told path → ⊥
was_there told was path r e m n h = n (m (subst (λ z. IsMissing z path) (sym e) h))
