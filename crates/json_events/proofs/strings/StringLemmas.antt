-- A string stands for one text alone.
use Rattle.std.proofs.Common.{◌≡◌, ℕ, ◌<◌, true, false, List, [], ◌∷◌, ◌++◌, length, map, get_or, Some, None, refl, sym, ap, ap₂, subst, ◌∙◌, arith, append_assoc, lit<}
use Rattle.std.specs.Char.{encode_utf8}
use Rattle.std.specs.Str.{encode_utf8_all}
use Rattle.std.specs.Str.Parse.{digits_value}
use Rattle.std.specs.List.{flat_map, AllByRecursion}
use Rattle.std.proofs.lemmas.Str.{encode_same, char_from_byte}
use Rattle.json_events.specs.JsonStrings.{IsUnescaped, escaped_character, is_high_surrogate, Spelling, unescaped, short_escape, unicode_escape, surrogate_escapes, spelled, character_of, IsSpelling, AreCharacters, IsString}

-- two lists that go on, of one length at the front
same_front : (xs ys r t : List ℕ) → length xs ≡ length ys → xs ++ r ≡ ys ++ t → (xs ≡ ys) × (r ≡ t)
same_front [] [] r t n e = (refl, e)
same_front [] (y ∷ ys) r t n e = absurd (omega (arith, n))
same_front (x ∷ xs) [] r t n e = absurd (omega (arith, n))
same_front (x ∷ xs) (y ∷ ys) r t n e =
    let head : x ≡ y = cc in
    let tail : xs ++ r ≡ ys ++ t = cc in
    let p = same_front xs ys r t (omega (arith, n)) tail in
    (ap₂ (λ z zs. z ∷ zs) head p.0, p.1)

-- a character that stands for itself begins with no quotation mark and no reverse solidus
begins_unescaped : (c b : ℕ) (r w : List ℕ) → b < 128 → encode_utf8 c ++ r ≡ b ∷ w → c ≡ b
begins_unescaped c b r w h e = char_from_byte (b ∷ w) r c (sym e) h (omega arith)

no_reverse_solidus : {Q : Type 0} (c : ℕ) (r w : List ℕ) → IsUnescaped c → encode_utf8 c ++ r ≡ 92 ∷ w → Q
no_reverse_solidus c r w h e = absurd (h.no_reverse_solidus (begins_unescaped c 92 r w (lit< tt) e))

-- a quotation mark is no reverse solidus
differ : (u w : List ℕ) → 34 ∷ u ≡ 92 ∷ w → ⊥
differ u w e = let h : 34 ≡ 92 = ap (λ (xs : List ℕ). get_or xs 0 0) e in omega (arith, h)

-- no spelling begins with a quotation mark
no_quotation_mark : (q : Spelling) (u rest : List ℕ) → IsSpelling q → 34 ∷ u ≡ spelled q ++ rest → ⊥
no_quotation_mark (unescaped c) u rest h e = h.no_quotation_mark (begins_unescaped c 34 rest u (lit< tt) (sym e))
no_quotation_mark (short_escape l x) u rest h e = differ u _ e
no_quotation_mark (unicode_escape ds) u rest h e = differ u _ e
no_quotation_mark (surrogate_escapes hs ls) u rest h e = differ u _ e

-- `u` is no letter of a short escape
no_u : {Q : Type 0} (l x : ℕ) → escaped_character l ≡ Some x → l ≡ 117 → Q
no_u l x h e = let n : None ≡ Some x = subst (λ k. escaped_character k ≡ Some x) e h in absurd (cc)

-- the bytes behind `\u`
pair_front : (hs ls t : List ℕ) → (hs ++ 92 ∷ 117 ∷ ls) ++ t ≡ hs ++ (92 ∷ 117 ∷ (ls ++ t))
pair_front hs ls t = append_assoc hs (92 ∷ 117 ∷ ls) t

-- half a pair is no character by itself
half : {Q : Type 0} (ds hs : List ℕ) → is_high_surrogate (digits_value 16 ds) ≡ false → is_high_surrogate (digits_value 16 hs) ≡ true → ds ≡ hs → Q
half ds hs f t e = let n : is_high_surrogate (digits_value 16 hs) ≡ false = subst (λ (xs : List ℕ). is_high_surrogate (digits_value 16 xs) ≡ false) e f in absurd (cc)

-- two spellings at the front of one list are of one character, and leave the same
same_spelling : (p q : Spelling) (r t : List ℕ) → IsSpelling p → IsSpelling q → spelled p ++ r ≡ spelled q ++ t → (character_of p ≡ character_of q) × (r ≡ t)
same_spelling (unescaped c) (unescaped d) r t h k e = encode_same c d r t e
same_spelling (unescaped c) (short_escape l x) r t h k e = no_reverse_solidus c r _ h e
same_spelling (unescaped c) (unicode_escape ds) r t h k e = no_reverse_solidus c r _ h e
same_spelling (unescaped c) (surrogate_escapes hs ls) r t h k e = no_reverse_solidus c r _ h e
same_spelling (short_escape l x) (unescaped d) r t h k e = no_reverse_solidus d t _ k (sym e)
same_spelling (short_escape l x) (short_escape m y) r t h k e =
    let same : l ≡ m = cc in
    let one : Some x ≡ Some y = sym h ∙ ap escaped_character same ∙ k in
    (cc, cc)
same_spelling (short_escape l x) (unicode_escape ds) r t h k e = no_u l x h (cc)
same_spelling (short_escape l x) (surrogate_escapes hs ls) r t h k e = no_u l x h (cc)
same_spelling (unicode_escape ds) (unescaped d) r t h k e = no_reverse_solidus d t _ k (sym e)
same_spelling (unicode_escape ds) (short_escape m y) r t h k e = no_u m y k (cc)
same_spelling (unicode_escape ds) (unicode_escape es) r t h k e =
    let rest : ds ++ r ≡ es ++ t = cc in
    let p = same_front ds es r t (h.0.0 ∙ sym k.0.0) rest in
    (ap (λ xs. digits_value 16 xs) p.0, p.1)
same_spelling (unicode_escape ds) (surrogate_escapes hs ls) r t h k e =
    let rest : ds ++ r ≡ (hs ++ 92 ∷ 117 ∷ ls) ++ t = cc in
    half ds hs h.1 k.2 (same_front ds hs r (92 ∷ 117 ∷ (ls ++ t)) (h.0.0 ∙ sym k.0.0) (rest ∙ pair_front hs ls t)).0
same_spelling (surrogate_escapes hs ls) (unescaped d) r t h k e = no_reverse_solidus d t _ k (sym e)
same_spelling (surrogate_escapes hs ls) (short_escape m y) r t h k e = no_u m y k (cc)
same_spelling (surrogate_escapes hs ls) (unicode_escape es) r t h k e =
    let rest : (hs ++ 92 ∷ 117 ∷ ls) ++ r ≡ es ++ t = cc in
    half es hs k.1 h.2 (sym (same_front hs es (92 ∷ 117 ∷ (ls ++ r)) t (h.0.0 ∙ sym k.0.0) (sym (pair_front hs ls r) ∙ rest)).0)
same_spelling (surrogate_escapes hs ls) (surrogate_escapes hs' ls') r t h k e =
    let rest : (hs ++ 92 ∷ 117 ∷ ls) ++ r ≡ (hs' ++ 92 ∷ 117 ∷ ls') ++ t = cc in
    let p = same_front hs hs' (92 ∷ 117 ∷ (ls ++ r)) (92 ∷ 117 ∷ (ls' ++ t)) (h.0.0 ∙ sym k.0.0) (sym (pair_front hs ls r) ∙ rest ∙ pair_front hs' ls' t) in
    let low : ls ++ r ≡ ls' ++ t = cc (p.1) in
    let q = same_front ls ls' r t (h.1.0 ∙ sym k.1.0) low in
    (ap₂ (λ xs ys. character_of (surrogate_escapes xs ys)) p.0 q.0, q.1)

-- two lists of spellings before a quotation mark
same_spellings : (ps qs : List Spelling) (u v : List ℕ) → AllByRecursion IsSpelling ps → AllByRecursion IsSpelling qs → flat_map spelled ps ++ 34 ∷ u ≡ flat_map spelled qs ++ 34 ∷ v → map character_of ps ≡ map character_of qs
same_spellings [] [] u v h k e = refl
same_spellings [] (q ∷ qs) u v h k e = absurd (no_quotation_mark q u (flat_map spelled qs ++ 34 ∷ v) k.0 (e ∙ append_assoc (spelled q) (flat_map spelled qs) (34 ∷ v)))
same_spellings (p ∷ ps) [] u v h k e = absurd (no_quotation_mark p v (flat_map spelled ps ++ 34 ∷ u) h.0 (sym e ∙ append_assoc (spelled p) (flat_map spelled ps) (34 ∷ u)))
same_spellings (p ∷ ps) (q ∷ qs) u v h k e =
    let one = same_spelling p q (flat_map spelled ps ++ 34 ∷ u) (flat_map spelled qs ++ 34 ∷ v) h.0 k.0
    (sym (append_assoc (spelled p) (flat_map spelled ps) (34 ∷ u)) ∙ e ∙ append_assoc (spelled q) (flat_map spelled qs) (34 ∷ v)) in
    ap₂ (λ c cs. c ∷ cs) one.0 (same_spellings ps qs u v h.1 k.1 one.1)

-- a string stands for one text
pub one_text : (s t bytes : List ℕ) → IsString s bytes → IsString t bytes → s ≡ t
one_text s t bytes a b =
    let x : AreCharacters s a.inner = a.characters in
    let y : AreCharacters t b.inner = b.characters in
    let both : 34 ∷ (a.inner ++ 34 ∷ []) ≡ 34 ∷ (b.inner ++ 34 ∷ []) = sym a.quoted ∙ b.quoted in
    let inner : a.inner ++ 34 ∷ [] ≡ b.inner ++ 34 ∷ [] = cc (both) in
    let same : flat_map spelled x.spellings ++ 34 ∷ [] ≡ flat_map spelled y.spellings ++ 34 ∷ [] = ap (λ xs. xs ++ 34 ∷ []) (sym x.bytes_are) ∙ inner ∙ ap (λ xs. xs ++ 34 ∷ []) y.bytes_are in
    x.text_is ∙ ap encode_utf8_all (same_spellings x.spellings y.spellings [] [] x.allowed y.allowed same) ∙ sym y.text_is
