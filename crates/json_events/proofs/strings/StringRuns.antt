-- The machine of strings accepts each string of the grammar.
use Rattle.std.proofs.Common.{◌≡◌, ℕ, zero, suc, ◌+◌, ◌*◌, ◌<◌, ◌≤◌, true, false, cond, eqb, List, [], ◌∷◌, ◌++◌, length, Option, Some, None, ⊎_elim, refl, sym, ap, ◌∙◌, subst, arith, append_assoc}
use Rattle.std.specs.Prelude.{not, ◌&&◌, ◌||◌}
use Rattle.std.specs.List.{flat_map, AllByRecursion}
use Rattle.std.specs.Char.{digit_value, encode_utf8}
use Rattle.std.specs.Str.Parse.{digits_value, digits_value_after}
use Rattle.std.proofs.lemmas.List.{append-nil}
use Rattle.std.proofs.lemmas.Bool.{cases_Bool, cases_lt, eqb-true, ne_eqb}
use Rattle.std.proofs.lemmas.Bool.Decides.{nat_tests}
use Rattle.std.proofs.lemmas.Str.{encode_ascii}
use Rattle.json_events.specs.declared.state.StringState.{StringState}
use Rattle.json_events.specs.declared.state.StringState.TheVariants.{Plain, Continuation, Escape, Hex, LowSolidus, LowU, Low}
use Rattle.json_events.specs.JsonStrings.{escaped_character, is_high_surrogate, is_low_surrogate, IsHex4, paired, Spelling, unescaped, short_escape, unicode_escape, surrogate_escapes, spelled, IsSpelling, IsString}
use Rattle.json_events.specs.StringSteps.{is_hex, is_plain, Lead, lead, led_to, short_to, is_low_front, hex_to, low_to, more_string, short_held, hex_held, string_adds, string_from}
use Rattle.json_events.proofs.strings.Utf8Lemmas.{short_ascii}
use Rattle.json_events.proofs.strings.Utf8Bytes.{IsRaw}
use Rattle.json_events.specs.HeldWords.{IsTail}
use Rattle.json_events.proofs.strings.CharacterRows.{raw_of_char}
use Rattle.json_events.proofs.strings.StringWords.{meaning, meanings, AreHex, front_low}

-- a digit, by its value
is_digit_byte : (b : ℕ) → digit_value b < 16 → is_hex b ≡ true
is_digit_byte b h = grind (arith, nat_tests)

-- one byte, whose effect is known
step : (s : StringState) (next : Option StringState) (b : ℕ) (xs held t : List ℕ) → more_string s b ≡ next → string_adds s b ≡ xs → string_from (Some s) held (b ∷ t) ≡ string_from next (held ++ xs) t
step s next b xs held t e f = ap (λ o. string_from o (held ++ string_adds s b) t) e ∙ ap (λ (l : List ℕ). string_from next (held ++ l) t) f

quiet : (s next : StringState) (b : ℕ) (held t : List ℕ) → more_string s b ≡ Some next → string_adds s b ≡ [] → string_from (Some s) held (b ∷ t) ≡ string_from (Some next) held t
quiet s next b held t e f = step s (Some next) b [] held t e f ∙ ap (λ (l : List ℕ). string_from (Some next) l t) (append-nil held)

-- a byte that stands for itself leaves the string where it was
pub plain_more : (b : ℕ) → is_plain b ≡ true → more_string Plain b ≡ Some Plain
plain_more b h = grind (arith, nat_tests)

-- and it adds itself
pub plain_adds : (b : ℕ) → is_plain b ≡ true → string_adds Plain b ≡ b ∷ []
plain_adds b h = grind (arith, nat_tests)

no_lead : (b : ℕ) → b < 128 → lead b ≡ None
no_lead b h = grind (arith, nat_tests)

beyond_more : (b : ℕ) → 128 ≤ b → more_string Plain b ≡ led_to (lead b)
beyond_more b h = grind (arith, nat_tests)

beyond_adds : (b : ℕ) → 128 ≤ b → string_adds Plain b ≡ b ∷ []
beyond_adds b h = grind (arith, nat_tests)

lead_beyond : (b : ℕ) (l : Lead) → lead b ≡ Some l → 128 ≤ b
lead_beyond b l h = ⊎_elim
    (λ (e : b < 128). let n = no_lead b e in absurd (cc (n, h)))
    (λ (e : 128 ≤ b). e)
    (cases_lt b 128)

tail_run : (n low high : ℕ) (bs s held : List ℕ) → IsTail low high n bs → string_from (Some (Continuation low high n)) held (bs ++ s) ≡ string_from (Some Plain) (held ++ bs) s
tail_run zero low high bs s held h =
    let b = h.0 in
    ap (λ (l : List ℕ). string_from (Some (Continuation low high zero)) held (l ++ s)) h.1
    ∙ step (Continuation low high zero) (Some Plain) b (b ∷ []) held s (ap (λ t. cond t (Some Plain) None) h.2) refl
    ∙ ap (λ (l : List ℕ). string_from (Some Plain) (held ++ l) s) (sym h.1)
tail_run (suc n) low high bs s held h =
    let b = h.0 in
    let rest = h.1 in
    ap (λ (l : List ℕ). string_from (Some (Continuation low high (suc n))) held (l ++ s)) h.2
    ∙ step (Continuation low high (suc n)) (Some (Continuation 128 191 n)) b (b ∷ []) held (rest ++ s) (ap (λ t. cond t (Some (Continuation 128 191 n)) None) h.3) refl
    ∙ tail_run n 128 191 rest s (held ++ b ∷ []) h.4
    ∙ ap (λ (l : List ℕ). string_from (Some Plain) l s) (append_assoc held (b ∷ []) rest ∙ ap (λ (l : List ℕ). held ++ l) (sym h.2))

raw_run : (bs s held : List ℕ) → IsRaw bs → string_from (Some Plain) held (bs ++ s) ≡ string_from (Some Plain) (held ++ bs) s
raw_run [] s held h = absurd h
raw_run (b ∷ bs) s held h = ⊎_elim
    (λ x. ap (λ (l : List ℕ). string_from (Some Plain) held (b ∷ (l ++ s))) x.1
    ∙ step Plain (Some Plain) b (b ∷ []) held s (plain_more b x.0) (plain_adds b x.0)
    ∙ ap (λ (l : List ℕ). string_from (Some Plain) (held ++ b ∷ l) s) (sym x.1))
    (λ x.
    let l = x.0 in
    let far = lead_beyond b l x.1 in
    step Plain (Some (Continuation l.low l.high l.left)) b (b ∷ []) held (bs ++ s) (beyond_more b far ∙ ap led_to x.1) (beyond_adds b far)
    ∙ tail_run l.left l.low l.high bs s (held ++ b ∷ []) x.2
    ∙ ap (λ (l : List ℕ). string_from (Some Plain) l s) (append_assoc held (b ∷ []) bs))
    h

no_u : (b v : ℕ) → escaped_character b ≡ Some v → eqb b 117 ≡ false
no_u b v h = ⊎_elim
    (λ (e : eqb b 117 ≡ true). let n : escaped_character b ≡ None = subst (λ x. escaped_character x ≡ None) (sym (eqb-true b 117 e)) refl in absurd (cc (n, h)))
    (λ e. e)
    (cases_Bool (eqb b 117))

short_run : (b v : ℕ) (s held : List ℕ) → escaped_character b ≡ Some v → string_from (Some Plain) held (92 ∷ b ∷ s) ≡ string_from (Some Plain) (held ++ v ∷ []) s
short_run b v s held h =
    quiet Plain Escape 92 held (b ∷ s) refl refl
    ∙ step Escape (Some Plain) b (v ∷ []) held s (ap (λ t. cond t (Some (Hex 4 0)) (short_to (escaped_character b))) (no_u b v h) ∙ ap short_to h) (ap (λ t. cond t [] (short_held (escaped_character b))) (no_u b v h) ∙ ap short_held h)

-- a digit that is not the last
hex_goes_on : (m u : ℕ) (ds : List ℕ) → length ds ≡ suc m → AreHex ds → is_low_surrogate (digits_value_after 16 u ds) ≡ false → eqb m 1 && is_low_front u ≡ false
hex_goes_on zero u ds e h low = refl
hex_goes_on (suc zero) u ds e h low = front_low u ds e h ∙ low
hex_goes_on (suc (suc m)) u ds e h low = ap (λ t. t && is_low_front u) (ne_eqb (suc (suc m)) 1 (λ x. absurd (omega (arith, x))))

hex_run : (ds : List ℕ) (n v d : ℕ) (s held : List ℕ) → length ds ≡ n → AreHex (d ∷ ds) → is_low_surrogate (digits_value_after 16 v (d ∷ ds)) ≡ false → string_from (Some (Hex (suc n) v)) held (d ∷ (ds ++ s)) ≡ string_from (hex_to 0 (digits_value_after 16 v (d ∷ ds))) (held ++ hex_held 0 (digits_value_after 16 v (d ∷ ds))) s
hex_run [] n v d s held e h low =
    let u = v * 16 + digit_value d in
    ap (λ k. string_from (Some (Hex (suc k) v)) held (d ∷ s)) (sym e)
    ∙ step (Hex 1 v) (hex_to 0 u) d (hex_held 0 u) held s (ap (λ t. cond t (hex_to 0 u) None) (is_digit_byte d h.0)) refl
hex_run (x ∷ ds) zero v d s held e h low = absurd (omega (arith, e))
hex_run (x ∷ ds) (suc m) v d s held e h low =
    let u = v * 16 + digit_value d in
    let open_ : eqb m 1 && is_low_front u ≡ false = hex_goes_on m u (x ∷ ds) e h.1 low in
    quiet (Hex (suc (suc m)) v) (Hex (suc m) u) d held (x ∷ (ds ++ s)) (ap (λ t. cond t (hex_to (suc m) u) None) (is_digit_byte d h.0) ∙ ap (λ t. cond t None (Some (Hex (suc m) u))) open_) refl
    ∙ hex_run ds m u x s held (omega (arith, e)) h.1 low

four_digits : {Q : Type 0} (ds : List ℕ) → IsHex4 ds → ((a : ℕ) (rest : List ℕ) → ds ≡ a ∷ rest → length rest ≡ 3 → AreHex (a ∷ rest) → Q) → Q
four_digits [] h f = absurd (cc (h.0))
four_digits (a ∷ rest) h f = f a rest refl (omega (arith, h.0)) h.1

-- `\u` and four digits
unit_digits : (ds s held : List ℕ) → IsHex4 ds → is_low_surrogate (digits_value 16 ds) ≡ false → string_from (Some Plain) held (92 ∷ 117 ∷ (ds ++ s)) ≡ string_from (hex_to 0 (digits_value 16 ds)) (held ++ hex_held 0 (digits_value 16 ds)) s
unit_digits ds s held h low =
    quiet Plain Escape 92 held (117 ∷ (ds ++ s)) refl refl
    ∙ quiet Escape (Hex 4 0) 117 held (ds ++ s) refl refl
    ∙ four_digits ds h (λ a rest e n x.
    ap (λ (l : List ℕ). string_from (Some (Hex 4 0)) held (l ++ s)) e
    ∙ hex_run rest 3 0 a s held n x (subst (λ (l : List ℕ). is_low_surrogate (digits_value 16 l) ≡ false) e low)
    ∙ ap (λ (l : List ℕ). string_from (hex_to 0 (digits_value 16 l)) (held ++ hex_held 0 (digits_value 16 l)) s) (sym e))

unit_run : (ds s held : List ℕ) → IsHex4 ds → is_high_surrogate (digits_value 16 ds) ≡ false → is_low_surrogate (digits_value 16 ds) ≡ false → string_from (Some Plain) held (92 ∷ 117 ∷ (ds ++ s)) ≡ string_from (Some Plain) (held ++ encode_utf8 (digits_value 16 ds)) s
unit_run ds s held h high low =
    unit_digits ds s held h low
    ∙ ap (λ t. string_from (Some (cond t (LowSolidus (digits_value 16 ds)) Plain)) (held ++ cond t [] (encode_utf8 (digits_value 16 ds))) s) high

-- the first digits of a second half
low_goes_on : (m u : ℕ) (ds : List ℕ) → length ds ≡ suc m → AreHex ds → is_low_surrogate (digits_value_after 16 u ds) ≡ true → (eqb m 2 && not (eqb u 13)) || (eqb m 1 && not (is_low_front u)) ≡ false
low_goes_on zero u ds e h low = refl
low_goes_on (suc zero) u ds e h low = ap not (front_low u ds e h ∙ low)
low_goes_on (suc (suc zero)) u ds e h low = ap (λ t. not t || false) (third u ds e h low)
  where
    by_digits : (u m n k : ℕ) → m < 16 → n < 16 → k < 16 → is_low_surrogate (((u * 16 + m) * 16 + n) * 16 + k) ≡ true → eqb u 13 ≡ true
    by_digits u m n k x y z h = grind (arith, nat_tests)

    third : (u : ℕ) (ds : List ℕ) → length ds ≡ 3 → AreHex ds → is_low_surrogate (digits_value_after 16 u ds) ≡ true → eqb u 13 ≡ true
    third u [] e h low = absurd (omega (arith, e))
    third u (a ∷ []) e h low = absurd (omega (arith, e))
    third u (a ∷ b ∷ []) e h low = absurd (omega (arith, e))
    third u (a ∷ b ∷ c ∷ []) e h low =
        by_digits u (digit_value a) (digit_value b) (digit_value c) h.0 h.1.0 h.1.1.0 low
    third u (a ∷ b ∷ c ∷ d ∷ ds) e h low = absurd (omega (arith, e))
low_goes_on (suc (suc (suc m))) u ds e h low =
    let n = suc (suc (suc m)) in
    ap (λ t. (t && not (eqb u 13)) || (eqb n 1 && not (is_low_front u))) (ne_eqb n 2 (λ x. absurd (omega (arith, x))))
    ∙ ap (λ t. t && not (is_low_front u)) (ne_eqb n 1 (λ x. absurd (omega (arith, x))))

low_run : (ds : List ℕ) (k n v d : ℕ) (s held : List ℕ) → length ds ≡ n → AreHex (d ∷ ds) → is_low_surrogate (digits_value_after 16 v (d ∷ ds)) ≡ true → string_from (Some (Low k (suc n) v)) held (d ∷ (ds ++ s)) ≡ string_from (Some Plain) (held ++ encode_utf8 (paired k (digits_value_after 16 v (d ∷ ds)))) s
low_run [] k n v d s held e h low =
    let u = v * 16 + digit_value d in
    ap (λ j. string_from (Some (Low k (suc j) v)) held (d ∷ s)) (sym e)
    ∙ step (Low k 1 v) (Some Plain) d (encode_utf8 (paired k u)) held s (ap (λ t. cond t (Some Plain) None) (is_digit_byte d h.0)) refl
low_run (x ∷ ds) k zero v d s held e h low = absurd (omega (arith, e))
low_run (x ∷ ds) k (suc m) v d s held e h low =
    let u = v * 16 + digit_value d in
    quiet (Low k (suc (suc m)) v) (Low k (suc m) u) d held (x ∷ (ds ++ s)) (ap (λ t. cond t (low_to k (suc m) u) None) (is_digit_byte d h.0) ∙ ap (λ t. cond t None (Some (Low k (suc m) u))) (low_goes_on m u (x ∷ ds) e h.1 low)) refl
    ∙ low_run ds k m u x s held (omega (arith, e)) h.1 low

pair_run : (hs ls s held : List ℕ) → IsHex4 hs → IsHex4 ls → is_high_surrogate (digits_value 16 hs) ≡ true → is_low_surrogate (digits_value 16 ls) ≡ true → is_low_surrogate (digits_value 16 hs) ≡ false → string_from (Some Plain) held (92 ∷ 117 ∷ ((hs ++ 92 ∷ 117 ∷ ls) ++ s)) ≡ string_from (Some Plain) (held ++ encode_utf8 (paired (digits_value 16 hs) (digits_value 16 ls))) s
pair_run hs ls s held h l high low other =
    let u = digits_value 16 hs in
    ap (λ (t : List ℕ). string_from (Some Plain) held (92 ∷ 117 ∷ t)) (append_assoc hs (92 ∷ 117 ∷ ls) s)
    ∙ unit_digits hs (92 ∷ 117 ∷ (ls ++ s)) held h other
    ∙ ap (λ t. string_from (Some (cond t (LowSolidus u) Plain)) (held ++ cond t [] (encode_utf8 u)) (92 ∷ 117 ∷ (ls ++ s))) high
    ∙ ap (λ (t : List ℕ). string_from (Some (LowSolidus u)) t (92 ∷ 117 ∷ (ls ++ s))) (append-nil held)
    ∙ quiet (LowSolidus u) (LowU u) 92 held (117 ∷ (ls ++ s)) refl refl
    ∙ quiet (LowU u) (Low u 4 0) 117 held (ls ++ s) refl refl
    ∙ four_digits ls l (λ a rest e n x.
    ap (λ (t : List ℕ). string_from (Some (Low u 4 0)) held (t ++ s)) e
    ∙ low_run rest u 3 0 a s held n x (subst (λ (t : List ℕ). is_low_surrogate (digits_value 16 t) ≡ true) e low)
    ∙ ap (λ (t : List ℕ). string_from (Some Plain) (held ++ encode_utf8 (paired u (digits_value 16 t))) s) (sym e))

not_both : (u : ℕ) → is_high_surrogate u ≡ true → is_low_surrogate u ≡ false
not_both u h = grind (arith, nat_tests)

char_run : (c : Spelling) (s held : List ℕ) → IsSpelling c → string_from (Some Plain) held (spelled c ++ s) ≡ string_from (Some Plain) (held ++ meaning c) s
char_run (unescaped c) s held h = raw_run (encode_utf8 c) s held (raw_of_char c h)
char_run (short_escape b v) s held h = short_run b v s held h ∙ ap (λ (l : List ℕ). string_from (Some Plain) (held ++ l) s) (sym (encode_ascii v (short_ascii b v h)))
char_run (unicode_escape ds) s held h = unit_run ds s held h.0 h.1 h.2
char_run (surrogate_escapes hs ls) s held h = pair_run hs ls s held h.0 h.1 h.2 h.3 (not_both (digits_value 16 hs) h.2)

chars_run : (chars : List Spelling) (held : List ℕ) → AllByRecursion IsSpelling chars → string_from (Some Plain) held (flat_map spelled chars ++ 34 ∷ []) ≡ Some (held ++ flat_map meaning chars)
chars_run [] held h = refl
chars_run (c ∷ cs) held h =
    ap (string_from (Some Plain) held) (append_assoc (spelled c) (flat_map spelled cs) (34 ∷ []))
    ∙ char_run c (flat_map spelled cs ++ 34 ∷ []) held h.0
    ∙ chars_run cs (held ++ meaning c) h.1
    ∙ ap Some (append_assoc held (meaning c) (flat_map meaning cs))

-- what stands behind the opening quotation mark of a string is accepted, and stands for the same text
pub machine_of_string : (cs w : List ℕ) → IsString cs w → (t : List ℕ) × (w ≡ 34 ∷ t) × (string_from (Some Plain) [] t ≡ Some cs)
machine_of_string cs w h =
    let x = h.characters in
    let ss : List Spelling = x.spellings in (
      h.inner ++ 34 ∷ [],
      h.quoted,
      ap (λ (l : List ℕ). string_from (Some Plain) [] (l ++ 34 ∷ [])) x.bytes_are
          ∙ chars_run ss [] x.allowed ∙ ap Some (meanings ss ∙ sym x.text_is),
    )

-- the empty string
pub empty_string : IsString [] (34 ∷ 34 ∷ [])
empty_string = record { inner = []; quoted = refl; characters = record { spellings = []; allowed = tt; bytes_are = refl; text_is = refl } }
