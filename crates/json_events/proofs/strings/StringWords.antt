-- What the machine of strings accepts is a string of the grammar.
use Rattle.std.proofs.Common.{◌≡◌, ℕ, zero, suc, ◌+◌, ◌*◌, ◌<◌, ◌⊎◌, Bool, true, false, cond, eqb, List, [], ◌∷◌, ◌++◌, length, map, Option, Some, None, inl, inr, ⊎_elim, refl, sym, ap, ◌∙◌, subst, arith, append_assoc}
use Rattle.std.specs.Prelude.{⊤, not, ◌&&◌, ◌||◌}
use Rattle.std.specs.List.{flat_map, AllByRecursion}
use Rattle.std.specs.Char.{digit_value, encode_utf8}
use Rattle.std.specs.Str.{encode_utf8_all}
use Rattle.std.specs.Str.Parse.{AllDigits, digits_value, digits_value_after}
use Rattle.std.proofs.lemmas.List.{append-nil}
use Rattle.std.proofs.lemmas.Bool.{or_from, not-false, ltb-true, eqb-true}
use Rattle.std.proofs.lemmas.Bool.Decides.{nat_tests}
use Rattle.std.proofs.lemmas.Str.{encode_ascii}
use Rattle.json_events.specs.declared.state.StringState.{StringState}
use Rattle.json_events.specs.declared.state.StringState.TheVariants.{Plain, Continuation, Escape, Hex, LowSolidus, LowU, Low, Closed}
use Rattle.json_events.specs.JsonStrings.{escaped_character, is_high_surrogate, is_low_surrogate, IsHex4, paired, Spelling, unescaped, short_escape, unicode_escape, surrogate_escapes, spelled, character_of, IsSpelling, IsString}
use Rattle.json_events.specs.StringSteps.{within, is_plain, Lead, lead, is_hex, led_to, tail_to, short_to, is_low_front, hex_to, low_to, more_hex, more_low, more_string, short_held, hex_held, low_held, hex_adds, low_adds, string_adds, string_end, string_from}
use Rattle.json_events.proofs.numbers.NumberWords.{from_choice}
use Rattle.json_events.proofs.strings.Utf8Lemmas.{short_ascii}
use Rattle.json_events.proofs.strings.Utf8Bytes.{IsRaw, char_of_raw}
use Rattle.json_events.specs.HeldWords.{IsTail}

-- the text of one spelling
abbrev pub meaning : Spelling → List ℕ
meaning s = encode_utf8 (character_of s)

-- the rest of a string, its closing quotation mark included
abbrev pub IsInner : List ℕ → List ℕ → Type 0
IsInner s cs = (spellings : List Spelling) × (s ≡ flat_map spelled spellings ++ 34 ∷ []) × AllByRecursion IsSpelling spellings × (cs ≡ flat_map meaning spellings)

-- a character before the rest
pub char_before : (c : Spelling) (s cs : List ℕ) → IsSpelling c → IsInner s cs → IsInner (spelled c ++ s) (meaning c ++ cs)
char_before c s cs h x = (c ∷ x.0, ap (λ l. spelled c ++ l) x.1 ∙ sym (append_assoc (spelled c) _ _), (h, x.2), ap (λ l. meaning c ++ l) x.3)

-- bytes that stand for themselves before it
raw_before : (bs s cs : List ℕ) → IsRaw bs → IsInner s cs → IsInner (bs ++ s) (bs ++ cs)
raw_before bs s cs h x =
    let c = char_of_raw bs h in
    subst (λ (l : List ℕ). IsInner (l ++ s) (l ++ cs)) (sym c.2) (char_before (unescaped c.0) s cs c.1 x)

-- a short escape before it
short_before : (b v : ℕ) (s cs : List ℕ) → escaped_character b ≡ Some v → IsInner s cs → IsInner (92 ∷ b ∷ s) (v ∷ cs)
short_before b v s cs h x = subst (λ (l : List ℕ). IsInner (92 ∷ b ∷ s) (l ++ cs)) (encode_ascii v (short_ascii b v h)) (char_before (short_escape b v) s cs h x)

-- from a number of digits on, the second half of a pair is excluded, or wanted; with two to come it was tested
abbrev pub IsSafe : ℕ → Bool → ℕ → Type 0
IsSafe zero want u = ⊤
IsSafe (suc zero) want u = ⊤
IsSafe (suc (suc zero)) want u = ⊤
IsSafe (suc (suc (suc k))) want u = is_low_surrogate u ≡ want

-- the character of a pair, and what follows it
abbrev pub LowPart : ℕ → ℕ → List ℕ → List ℕ → Type 0
LowPart h l rest cs = (more : List ℕ) × (cs ≡ encode_utf8 (paired h l) ++ more) × IsInner rest more

-- the second half, behind this front
abbrev pub LowBehind : (front : List ℕ) (h : ℕ) → List ℕ → List ℕ → Type 0
LowBehind front h t cs = (ls rest : List ℕ) × (t ≡ front ++ (ls ++ rest)) × IsHex4 ls × (is_low_surrogate (digits_value 16 ls) ≡ true) × LowPart h (digits_value 16 ls) rest cs

-- what follows the four digits
abbrev pub AfterUnit : ℕ → List ℕ → List ℕ → Type 0
AfterUnit u rest cs =
    ((is_high_surrogate u ≡ false) × (more : List ℕ) × (cs ≡ encode_utf8 u ++ more) × IsInner rest more)
    ⊎ ((is_high_surrogate u ≡ true) × LowBehind (92 ∷ 117 ∷ []) u rest cs)

-- all are hexadecimal digits
abbrev pub AreHex : List ℕ → Type 0
AreHex ds = AllDigits 16 ds

-- the bytes that end a string and what they add, by its state
abbrev pub Left : StringState → List ℕ → List ℕ → Type 0
Left Plain t cs = IsInner t cs
Left (Continuation low high n) t cs = (bs rest more : List ℕ) × (t ≡ bs ++ rest) × IsTail low high n bs × (cs ≡ bs ++ more) × IsInner rest more
Left Escape t cs = IsInner (92 ∷ t) cs
Left (Hex k v) t cs = (ds rest : List ℕ) × (t ≡ ds ++ rest) × (length ds ≡ k) × AreHex ds × IsSafe k false (digits_value_after 16 v ds) × AfterUnit (digits_value_after 16 v ds) rest cs
Left (LowSolidus h) t cs = LowBehind (92 ∷ 117 ∷ []) h t cs
Left (LowU h) t cs = LowBehind (117 ∷ []) h t cs
Left (Low h k v) t cs = (ds rest : List ℕ) × (t ≡ ds ++ rest) × (length ds ≡ k) × AreHex ds × IsSafe k true (digits_value_after 16 v ds) × LowPart h (digits_value_after 16 v ds) rest cs
Left Closed t cs = (t ≡ []) × (cs ≡ [])

-- the same, where the string goes on
abbrev pub LeftAt : Option StringState → List ℕ → List ℕ → Type 0
LeftAt None t cs = ⊥
LeftAt (Some s) t cs = Left s t cs

-- two more digits
pub front_low : (v : ℕ) (ds : List ℕ) → length ds ≡ 2 → AreHex ds → is_low_front v ≡ is_low_surrogate (digits_value_after 16 v ds)
front_low v [] e h = absurd (cc)
front_low v (a ∷ []) e h = absurd (omega (arith, e))
front_low v (a ∷ b ∷ []) e h =
    by_digits (digit_value a) (digit_value b) h.0 h.1.0
  where
    by_digits : (m n : ℕ) → m < 16 → n < 16 → is_low_front v ≡ is_low_surrogate ((v * 16 + m) * 16 + n)
    by_digits m n x y = grind (arith, nat_tests)
front_low v (a ∷ b ∷ c ∷ ds) e h = absurd (omega (arith, e))

module _ (b : ℕ) (t cs : List ℕ) where
  abbrev Next : Option StringState → Type 0
  Next o = LeftAt o t cs

  -- where the byte string_adds this
  inner_at : (xs ys : List ℕ) → xs ≡ ys → IsInner (b ∷ t) (ys ++ cs) → IsInner (b ∷ t) (xs ++ cs)
  inner_at xs ys e x = subst (λ l. IsInner (b ∷ t) (l ++ cs)) (sym e) x

  back_lead : eqb b 34 || eqb b 92 ≡ false → (o : Option Lead) → lead b ≡ o → Next (led_to o) → IsInner (b ∷ t) (string_adds Plain b ++ cs)
  back_lead n None e x = absurd x
  back_lead n (Some l) e x =
      inner_at (string_adds Plain b) (b ∷ []) (ap (λ u. cond u [] (b ∷ [])) n)
      (subst (λ (y : List ℕ). IsInner (b ∷ y) (b ∷ cs)) (sym x.3) (subst (λ (y : List ℕ). IsInner (b ∷ (x.0 ++ x.1)) (b ∷ y)) (sym x.5) (raw_before (b ∷ x.0) x.1 x.2 (inr (l, e, x.4)) x.6)))

  back_plain : Next (more_string Plain b) → IsInner (b ∷ t) (string_adds Plain b ++ cs)
  back_plain h =
      from_choice Next (eqb b 34) (Some Closed) _
      (λ e x. inner_at (string_adds Plain b) [] (ap (λ u. cond (u || eqb b 92) [] (b ∷ [])) e)
      ([], (λ i. eqb-true b 34 e i ∷ x.0 i), tt, x.1))
      (λ n34 r. from_choice Next (eqb b 92) (Some Escape) _
      (λ e x. inner_at (string_adds Plain b) [] (ap (λ u. cond (u || eqb b 92) [] (b ∷ [])) n34 ∙ ap (λ u. cond u [] (b ∷ [])) e) (subst (λ y. IsInner (y ∷ t) cs) (sym (eqb-true b 92 e)) x))
      (λ n92 r. let no : eqb b 34 || eqb b 92 ≡ false = or_from _ _ n34 n92 in
      from_choice Next (is_plain b) (Some Plain) (led_to (lead b))
      (λ e x. inner_at (string_adds Plain b) (b ∷ []) (ap (λ u. cond u [] (b ∷ [])) no) (raw_before (b ∷ []) t cs (inl (e, refl)) x))
      (λ _ x. back_lead no (lead b) refl x)
      r)
      r)
      h

  back_short : eqb b 117 ≡ false → (o : Option ℕ) → escaped_character b ≡ o → Next (short_to o) → IsInner (92 ∷ b ∷ t) (short_held o ++ cs)
  back_short n None e x = absurd x
  back_short n (Some v) e x = short_before b v t cs e x

  -- four digits after `\u`
  unit_before : (ds rest : List ℕ) → t ≡ ds ++ rest → IsHex4 ds → is_low_surrogate (digits_value 16 ds) ≡ false → AfterUnit (digits_value 16 ds) rest cs → IsInner (92 ∷ 117 ∷ t) cs
  unit_before ds rest e four low a = ⊎_elim
      (λ x. subst (λ (y : List ℕ). IsInner (92 ∷ 117 ∷ y) cs) (sym e) (subst (IsInner (92 ∷ 117 ∷ (ds ++ rest))) (sym x.2) (char_before (unicode_escape ds) rest x.1 (four, x.0, low) x.3)))
      (λ x.
      let y = x.1 in
      let ls = y.0 in
      let after = y.1 in
      let z = y.5 in
      let c = char_before (surrogate_escapes ds ls) after z.0 (four, y.3, x.0, y.4) z.2 in
      let text : 92 ∷ 117 ∷ ((ds ++ 92 ∷ 117 ∷ ls) ++ after) ≡ 92 ∷ 117 ∷ t = ap (λ l. 92 ∷ 117 ∷ l) (append_assoc ds (92 ∷ 117 ∷ ls) after ∙ ap (λ l. ds ++ l) (sym y.2) ∙ sym e) in
      subst (λ (l : List ℕ). IsInner l cs) text (subst (IsInner (92 ∷ 117 ∷ ((ds ++ 92 ∷ 117 ∷ ls) ++ after))) (sym z.1) c))
      a

  back_escape : Next (more_string Escape b) → IsInner (92 ∷ b ∷ t) (string_adds Escape b ++ cs)
  back_escape h =
      from_choice Next (eqb b 117) (Some (Hex 4 0)) (short_to (escaped_character b))
      (λ e x. subst (λ (l : List ℕ). IsInner (92 ∷ b ∷ t) (l ++ cs)) (sym (ap (λ u. cond u [] (short_held (escaped_character b))) e))
      (subst (λ y. IsInner (92 ∷ y ∷ t) cs) (sym (eqb-true b 117 e)) (unit_before x.0 x.1 x.2 (x.3, x.4) x.5 x.6)))
      (λ n x. subst (λ (l : List ℕ). IsInner (92 ∷ b ∷ t) (l ++ cs)) (sym (ap (λ u. cond u [] (short_held (escaped_character b))) n)) (back_short n (escaped_character b) refl x))
      h

  hex_one : is_hex b ≡ true → AreHex (b ∷ [])
  hex_one e = (ltb-true _ _ e, tt)

  back_tail : (low high n : ℕ) → within low high b ≡ true → Left (tail_to n) t cs → Left (Continuation low high n) (b ∷ t) (b ∷ cs)
  back_tail low high zero e x = (b ∷ [], t, cs, refl, (b, refl, e), refl, x)
  back_tail low high (suc n) e x = (b ∷ x.0, x.1, x.2, ap (λ l. b ∷ l) x.3, (b, x.0, refl, e, x.4), ap (λ l. b ∷ l) x.5, x.6)

  safe_more : (n u : ℕ) (ds : List ℕ) → eqb n 1 && is_low_front u ≡ false → length ds ≡ suc n → AreHex ds → IsSafe (suc n) false (digits_value_after 16 u ds) → IsSafe (suc (suc n)) false (digits_value_after 16 u ds)
  safe_more zero u ds f e h s = tt
  safe_more (suc zero) u ds f e h s = sym (front_low u ds e h) ∙ f
  safe_more (suc (suc n)) u ds f e h s = s

  back_hex : (n v : ℕ) → is_hex b ≡ true → Next (hex_to n (v * 16 + digit_value b)) → Left (Hex (suc n) v) (b ∷ t) (hex_held n (v * 16 + digit_value b) ++ cs)
  back_hex zero v e h =
      let u = v * 16 + digit_value b in
      from_choice (λ s. Left s t cs) (is_high_surrogate u) (LowSolidus u) Plain
      (λ hi x. (b ∷ [], t, refl, refl, hex_one e, tt, inr (hi, subst (λ (l : List ℕ). LowBehind (92 ∷ 117 ∷ []) u t (l ++ cs)) (sym (ap (λ c. cond c [] (encode_utf8 u)) hi)) x)))
      (λ lo x. (b ∷ [], t, refl, refl, hex_one e, tt, inl (lo, cs, ap (λ c. cond c [] (encode_utf8 u) ++ cs) lo, x)))
      h
  back_hex (suc n) v e h =
      let u = v * 16 + digit_value b in
      from_choice Next (eqb n 1 && is_low_front u) None (Some (Hex (suc n) u))
      (λ _ x. absurd x)
      (λ f x. (b ∷ x.0, x.1, ap (λ l. b ∷ l) x.2, ap suc x.3, (ltb-true _ _ e, x.4), safe_more n u x.0 f x.3 x.4 x.5, x.6))
      h

  safe_low : (n u : ℕ) (ds : List ℕ) → (eqb n 2 && not (eqb u 13)) || (eqb n 1 && not (is_low_front u)) ≡ false → length ds ≡ suc n → AreHex ds → IsSafe (suc n) true (digits_value_after 16 u ds) → IsSafe (suc (suc n)) true (digits_value_after 16 u ds)
  safe_low zero u ds f e h s = tt
  safe_low (suc zero) u ds f e h s = sym (front_low u ds e h) ∙ not-false _ f
  safe_low (suc (suc n)) u ds f e h s = s

  back_low : (k n v : ℕ) → is_hex b ≡ true → Next (low_to k n (v * 16 + digit_value b)) → Left (Low k (suc n) v) (b ∷ t) (low_held k n (v * 16 + digit_value b) ++ cs)
  back_low k zero v e x = (b ∷ [], t, refl, refl, hex_one e, tt, (cs, refl, x))
  back_low k (suc n) v e h =
      let u = v * 16 + digit_value b in
      from_choice Next ((eqb n 2 && not (eqb u 13)) || (eqb n 1 && not (is_low_front u))) None (Some (Low k (suc n) u))
      (λ _ x. absurd x)
      (λ f x. (b ∷ x.0, x.1, ap (λ l. b ∷ l) x.2, ap suc x.3, (ltb-true _ _ e, x.4), safe_low n u x.0 f x.3 x.4 x.5, x.6))
      h

  back_more_hex : (k v : ℕ) → Next (more_hex k v b) → Left (Hex k v) (b ∷ t) (hex_adds k v b ++ cs)
  back_more_hex zero v h = absurd h
  back_more_hex (suc n) v h = from_choice Next (is_hex b) (hex_to n (v * 16 + digit_value b)) None (λ e x. back_hex n v e x) (λ _ x. absurd x) h

  back_more_low : (k n v : ℕ) → Next (more_low k n v b) → Left (Low k n v) (b ∷ t) (low_adds k n v b ++ cs)
  back_more_low k zero v h = absurd h
  back_more_low k (suc n) v h = from_choice Next (is_hex b) (low_to k n (v * 16 + digit_value b)) None (λ e x. back_low k n v e x) (λ _ x. absurd x) h

  -- a byte before what is left in the next state
  back : (s : StringState) → Next (more_string s b) → Left s (b ∷ t) (string_adds s b ++ cs)
  back Plain h = back_plain h
  back (Continuation low high n) h = from_choice Next (within low high b) (Some (tail_to n)) None (λ e x. back_tail low high n e x) (λ _ x. absurd x) h
  back Escape h = back_escape h
  back (Hex k v) h = back_more_hex k v h
  back (LowSolidus k) h = from_choice Next (eqb b 92) (Some (LowU k)) None (λ e x. (x.0, x.1, (λ i. eqb-true b 92 e i ∷ x.2 i), x.3, x.4, x.5)) (λ _ x. absurd x) h
  back (LowU k) h = from_choice Next (eqb b 117) (Some (Low k 4 0)) None (λ e x. (x.0, x.1, (λ i. eqb-true b 117 e i ∷ x.2 i), (x.3, x.4), x.5, x.6)) (λ _ x. absurd x) h
  back (Low k n v) h = back_more_low k n v h
  back Closed h = absurd h

at_end : (s : StringState) (held all : List ℕ) → string_end s held ≡ Some all → (cs : List ℕ) × (all ≡ held ++ cs) × Left s [] cs
at_end Plain held all h = absurd (cc)
at_end (Continuation low high n) held all h = absurd (cc)
at_end Escape held all h = absurd (cc)
at_end (Hex k v) held all h = absurd (cc)
at_end (LowSolidus k) held all h = absurd (cc)
at_end (LowU k) held all h = absurd (cc)
at_end (Low k n v) held all h = absurd (cc)
at_end Closed held all h = let same : all ≡ held = cc in ([], same ∙ sym (append-nil held), (refl, refl))

string_sound : (t : List ℕ) (o : Option StringState) (held all : List ℕ) → string_from o held t ≡ Some all → (cs : List ℕ) × (all ≡ held ++ cs) × LeftAt o t cs
string_sound t None held all h = absurd (cc)
string_sound [] (Some s) held all h = at_end s held all h
string_sound (b ∷ t) (Some s) held all h =
    let r = string_sound t (more_string s b) (held ++ string_adds s b) all h in
    (string_adds s b ++ r.0, r.1 ∙ append_assoc held (string_adds s b) r.0, back b t r.0 s r.2)

-- the text of all spellings
pub meanings : (ss : List Spelling) → flat_map meaning ss ≡ encode_utf8_all (map character_of ss)
meanings [] = refl
meanings (s ∷ ss) = ap (λ l. meaning s ++ l) (meanings ss)

-- what the machine accepts behind the opening quotation mark is a string
pub string_of_machine : (t all : List ℕ) → string_from (Some Plain) [] t ≡ Some all → IsString all (34 ∷ t)
string_of_machine t all h =
    let r = string_sound t (Some Plain) [] all h in
    let x : IsInner t r.0 = r.2 in
    record {
      inner = flat_map spelled x.0;
      quoted = ap (λ l. 34 ∷ l) x.1;
      characters = record { spellings = x.0; allowed = x.2; bytes_are = refl; text_is = r.1 ∙ x.3 ∙ meanings x.0 };
    }
