-- Escaping a text part by part.
use Rattle.std.proofs.Common.{◌≡◌, ℕ, ◌+◌, ◌<◌, true, false, cond, List, [], ◌∷◌, ◌++◌, length, take, drop, get_or, sym, ap, ap₂, ◌∙◌, append-nil}
use Rattle.std.proofs.lemmas.Grind.{flat_map-append}
use Rattle.std.proofs.lemmas.List.{take_more, take-append-drop}
use Rattle.json_events.specs.StringOutput.{must_escape, escape_of, escaped_byte, escaped}

-- one more byte that stands for itself
pub escaped_take : (text : List ℕ) (i : ℕ) → i < length text → must_escape (get_or text i 0) ≡ false → escaped (take i text) ≡ take i text → escaped (take (i + 1) text) ≡ take (i + 1) text
escaped_take text i within plain e =
    let x = get_or text i 0 in
    let whole : escaped (take i text ++ x ∷ []) ≡ take i text ++ x ∷ [] = flat_map-append escaped_byte (take i text) (x ∷ []) ∙ ap₂ (λ xs ys. xs ++ ys) e (ap (λ b. cond b (escape_of x) (x ∷ []) ++ []) plain) in
    ap escaped (take_more text i 0 within) ∙ whole ∙ sym (take_more text i 0 within)

-- bytes that stand for themselves, one that is escaped, and the others
pub escaped_split : (text after : List ℕ) (n byte : ℕ) → escaped (take n text) ≡ take n text → drop n text ≡ byte ∷ after → must_escape byte ≡ true → escaped text ≡ take n text ++ (escape_of byte ++ escaped after)
escaped_split text after n byte e d must =
    ap escaped (sym (take-append-drop n text)) ∙ flat_map-append escaped_byte (take n text) (drop n text)
    ∙ ap₂ (λ xs ys. xs ++ ys) e (ap escaped d ∙ ap (λ b. cond b (escape_of byte) (byte ∷ []) ++ escaped after) must)

-- bytes that stand for themselves to the end
pub escaped_plain : (text : List ℕ) (n : ℕ) → escaped (take n text) ≡ take n text → drop n text ≡ [] → escaped text ≡ take n text
escaped_plain text n e d =
    let all : take n text ++ [] ≡ text = ap (λ xs. take n text ++ xs) (sym d) ∙ take-append-drop n text in
    ap escaped (sym all) ∙ flat_map-append escaped_byte (take n text) [] ∙ ap (λ xs. xs ++ []) e ∙ append-nil (take n text)
