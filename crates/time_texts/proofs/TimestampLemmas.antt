-- A text is cut into the parts of a timestamp in one way.
use Rattle.std.proofs.Common.{◌≡◌, ℕ, ◌+◌, ◌≤◌, Bool, true, false, cond, ◌&&◌, ◌||◌, eqb, List, [], ◌∷◌, ◌++◌, length, drop, slice_index, refl, sym, ap, subst, ◌∙◌, arith, eqb-true, eq-eqb, take-append-drop, length-drop, Option, Some, None}
use Rattle.std.specs.Prelude.{codes, nat_le}
use Rattle.std.proofs.lemmas.Bool.{and_parts, and_from}
use Rattle.std.proofs.lemmas.Bool.Decides.{nat_tests}
use Rattle.std.proofs.lemmas.Slice.Eq.{bytes_eq-Decides}
use Rattle.std.proofs.lemmas.List.{length-take-le}
use Rattle.std.specs.Char.{is_ascii_digit}
use Rattle.std.specs.Str.{bytes_eq}
use Rattle.time_texts.specs.Digits.{are_all_digits, are_digits}
use Rattle.time_texts.specs.Fractions.{is_fraction, fraction_len}
use Rattle.time_texts.specs.TimestampTexts.{OffsetParts, TimestampParts, zone_text, front_text, timestamp_parts_text, is_zone_form, is_front_form, is_timestamp_form, IsTimestampText}
use Rattle.time_texts.specs.TimestampCut.{part_at, has_marks, has_date_digits, has_clock_digits, is_offset, is_zone, cut_zone, cut_front, fraction_behind, zone_behind, cut_timestamp, has_form}
use Rattle.time_texts.proofs.FractionLemmas.{NoDigit, NoPoint, len_of_fraction, at_seam}

-- a list with two items, and one with four
pub record IsTwo (s : List ℕ) : Type 0 where
  pub a : ℕ
  pub b : ℕ
  pub is : s ≡ a ∷ b ∷ []

-- a list of four items
pub record IsFour (s : List ℕ) : Type 0 where
  pub a : ℕ
  pub b : ℕ
  pub c : ℕ
  pub d : ℕ
  pub is : s ≡ a ∷ b ∷ c ∷ d ∷ []

two : (s : List ℕ) → length s ≡ 2 → IsTwo s
two [] h = absurd (omega arith)
two (a ∷ []) h = absurd (omega arith)
two (a ∷ b ∷ []) h = record { a = a; b = b; is = refl }
two (a ∷ b ∷ c ∷ s) h = absurd (omega arith)

four : (s : List ℕ) → length s ≡ 4 → IsFour s
four [] h = absurd (omega arith)
four (a ∷ []) h = absurd (omega arith)
four (a ∷ b ∷ []) h = absurd (omega arith)
four (a ∷ b ∷ c ∷ []) h = absurd (omega arith)
four (a ∷ b ∷ c ∷ d ∷ []) h = record { a = a; b = b; c = c; d = d; is = refl }
four (a ∷ b ∷ c ∷ d ∷ e ∷ s) h = absurd (omega arith)

two_digits : (s : List ℕ) → are_digits 2 s ≡ true → IsTwo s
two_digits s h = two s (eqb-true _ _ (and_parts _ _ h).0)

four_digits : (s : List ℕ) → are_digits 4 s ≡ true → IsFour s
four_digits s h = four s (eqb-true _ _ (and_parts _ _ h).0)

digits_of : (n : ℕ) (s : List ℕ) → are_digits n s ≡ true → are_all_digits s ≡ true
digits_of n s h = (and_parts _ _ h).1

-- the text of a date and a clock, of lists of digits
abbrev pub front : List ℕ → List ℕ → List ℕ → List ℕ → List ℕ → List ℕ → List ℕ
front y mo d h mi s = y ++ (45 ∷ mo ++ (45 ∷ d ++ (84 ∷ h ++ (58 ∷ mi ++ 58 ∷ s))))

-- the marks are what they are
marks_are : (y₁ y₂ y₃ y₄ m₁ a b m₂ c d m₃ e f m₄ g h m₅ i j : ℕ) (r : List ℕ)
    → m₁ ≡ 45 → m₂ ≡ 45 → m₃ ≡ 84 → m₄ ≡ 58 → m₅ ≡ 58
    → y₁ ∷ y₂ ∷ y₃ ∷ y₄ ∷ m₁ ∷ a ∷ b ∷ m₂ ∷ c ∷ d ∷ m₃ ∷ e ∷ f ∷ m₄ ∷ g ∷ h ∷ m₅ ∷ i ∷ j ∷ r
    ≡ y₁ ∷ y₂ ∷ y₃ ∷ y₄ ∷ 45 ∷ a ∷ b ∷ 45 ∷ c ∷ d ∷ 84 ∷ e ∷ f ∷ 58 ∷ g ∷ h ∷ 58 ∷ i ∷ j ∷ r
marks_are y₁ y₂ y₃ y₄ m₁ a b m₂ c d m₃ e f m₄ g h m₅ i j r p q s t u = cc

-- a text that begins as a date and a clock do
pub front_of : (s : List ℕ) → 19 ≤ length s → has_marks s ≡ true
    → s ≡ front (part_at s 0 4) (part_at s 5 2) (part_at s 8 2) (part_at s 11 2) (part_at s 14 2) (part_at s 17 2)
    ++ drop 19 s
front_of (y₁ ∷ y₂ ∷ y₃ ∷ y₄ ∷ m₁ ∷ a ∷ b ∷ m₂ ∷ c ∷ d ∷ m₃ ∷ e ∷ f ∷ m₄ ∷ g ∷ h ∷ m₅ ∷ i ∷ j ∷ r) long marks =
    let k₁ = and_parts _ _ marks in
    let k₂ = and_parts _ _ k₁.1 in
    let k₃ = and_parts _ _ k₂.1 in
    let k₄ = and_parts _ _ k₃.1 in
    marks_are y₁ y₂ y₃ y₄ m₁ a b m₂ c d m₃ e f m₄ g h m₅ i j r (eqb-true m₁ 45 k₁.0) (eqb-true m₂ 45 k₂.0)
    (eqb-true m₃ 84 k₃.0) (eqb-true m₄ 58 k₄.0) (eqb-true m₅ 58 k₄.1)
front_of s long marks = absurd (omega arith)

-- what is cut of it has two digits, or four
pub part_len : (s : List ℕ) (n k : ℕ) → n + k ≤ length s → length (part_at s n k) ≡ k
part_len s n k h = let e = length-drop n s in length-take-le k (drop n s) (omega arith)

front_form : (s fraction zone : List ℕ) → 19 ≤ length s → has_date_digits s ≡ true → has_clock_digits s ≡ true
    → is_front_form (cut_front s fraction zone) ≡ true
front_form s fraction zone long date clock =
    let d = and_parts _ _ date in
    let d₂ = and_parts _ _ d.1 in
    let c = and_parts _ _ clock in
    let c₂ = and_parts _ _ c.1 in
    and_from _ _ (are s 0 4 (omega arith) d.0)
    (and_from _ _ (are s 5 2 (omega arith) d₂.0)
    (and_from _ _ (are s 8 2 (omega arith) d₂.1)
    (and_from _ _ (are s 11 2 (omega arith) c.0)
    (and_from _ _ (are s 14 2 (omega arith) c₂.0) (are s 17 2 (omega arith) c₂.1)))))
  where
    are : (s : List ℕ) (n k : ℕ) → n + k ≤ length s → are_all_digits (part_at s n k) ≡ true
        → are_digits k (part_at s n k) ≡ true
    are s n k h digits = and_from _ _ (eq-eqb _ _ (part_len s n k h)) digits

-- a text that is a distance from UTC
offset_of : (z : List ℕ) → length z ≡ 6 → slice_index z 3 ≡ 58
    → z ≡ slice_index z 0 ∷ part_at z 1 2 ++ 58 ∷ part_at z 4 2
offset_of (a ∷ b ∷ c ∷ d ∷ e ∷ f ∷ []) h mark = ap (λ (x : ℕ). a ∷ b ∷ c ∷ x ∷ e ∷ f ∷ []) mark
offset_of z h mark = absurd (omega arith)

offset_form : (z : List ℕ) → length z ≡ 6 → are_all_digits (part_at z 1 2) ≡ true
    → are_all_digits (part_at z 4 2) ≡ true → (eqb (slice_index z 0) 43 || eqb (slice_index z 0) 45) ≡ true
    → is_zone_form (Some (record { sign = slice_index z 0; hours = part_at z 1 2; minutes = part_at z 4 2 })) ≡ true
offset_form z h hours minutes sign =
    and_from _ _ sign (and_from _ _ (and_from _ _ (eq-eqb _ _ (part_len z 1 2 (omega arith))) hours)
    (and_from _ _ (eq-eqb _ _ (part_len z 4 2 (omega arith))) minutes))

-- a text that is a zone is that of its parts
pub zone_is : (z : List ℕ) → is_zone z ≡ true → (z ≡ zone_text (cut_zone z)) × (is_zone_form (cut_zone z) ≡ true)
zone_is z h = choice (bytes_eq z (codes "Z")) refl h
  where
    some : Option OffsetParts
    some = Some (record { sign = slice_index z 0; hours = part_at z 1 2; minutes = part_at z 4 2 })

    choice : (t : Bool) → bytes_eq z (codes "Z") ≡ t → (t || is_offset z) ≡ true
        → (z ≡ zone_text (cond t None some)) × (is_zone_form (cond t None some) ≡ true)
    choice true e k = ((bytes_eq-Decides z (codes "Z")).0 e, refl)
    choice false e k =
        let p = and_parts _ _ k in
        let q = and_parts _ _ p.1 in
        let r = and_parts _ _ q.1 in
        let d = and_parts _ _ r.1 in
        let six : length z ≡ 6 = eqb-true _ _ p.0 in
        (offset_of z six (eqb-true _ _ r.0), offset_form z six d.0 d.1 q.0)

-- and the parts of a zone are found
record FindsZone (zone : Option OffsetParts) : Type 0 where
  passes : is_zone (zone_text zone) ≡ true
  cut : cut_zone (zone_text zone) ≡ zone
  no_digit : NoDigit (zone_text zone)
  no_point : NoPoint (zone_text zone)

sign_is : (x : ℕ) → (eqb x 43 || eqb x 45) ≡ true → (is_ascii_digit x ≡ false) × (eqb x 46 ≡ false) × (eqb x 90 ≡ false)
sign_is x h = (digit x h, point x h, zulu x h)
  where
    digit : (x : ℕ) → (eqb x 43 || eqb x 45) ≡ true → is_ascii_digit x ≡ false
    digit x h = grind (arith, nat_tests)

    point : (x : ℕ) → (eqb x 43 || eqb x 45) ≡ true → eqb x 46 ≡ false
    point x h = grind (arith, nat_tests)

    zulu : (x : ℕ) → (eqb x 43 || eqb x 45) ≡ true → eqb x 90 ≡ false
    zulu x h = grind (arith, nat_tests)

offset_found : (x a b c d : ℕ) → (eqb x 43 || eqb x 45) ≡ true → are_all_digits (a ∷ b ∷ []) ≡ true
    → are_all_digits (c ∷ d ∷ []) ≡ true
    → FindsZone (Some (record { sign = x; hours = a ∷ b ∷ []; minutes = c ∷ d ∷ [] }))
unfolding NoDigit NoPoint
offset_found x a b c d sign hours minutes =
    let s = sign_is x sign in
    let other : bytes_eq (x ∷ a ∷ b ∷ 58 ∷ c ∷ d ∷ []) (codes "Z") ≡ false =
    ap (λ t. t && bytes_eq (a ∷ b ∷ 58 ∷ c ∷ d ∷ []) []) s.2 in
    record {
      passes = ap (λ t. t || is_offset (x ∷ a ∷ b ∷ 58 ∷ c ∷ d ∷ [])) other
          ∙ and_from _ _ sign (and_from _ _ hours minutes);
      cut = ap (λ t. cond t None (Some (record { sign = x; hours = a ∷ b ∷ []; minutes = c ∷ d ∷ [] }))) other;
      no_digit = s.0;
      no_point = s.1;
    }

finds_zone : (zone : Option OffsetParts) → is_zone_form zone ≡ true → FindsZone zone
unfolding NoDigit NoPoint
finds_zone None h = record { passes = refl; cut = refl; no_digit = refl; no_point = refl }
finds_zone (Some o) h =
    let p = and_parts _ _ h in
    let q = and_parts _ _ p.1 in
    let hours = two_digits o.hours q.0 in
    let minutes = two_digits o.minutes q.1 in
    subst (λ (x : List ℕ). FindsZone (Some (record { sign = o.sign; hours = x; minutes = o.minutes }))) (sym hours.is)
    (subst (λ (x : List ℕ). FindsZone (Some (record { sign = o.sign; hours = hours.a ∷ hours.b ∷ []; minutes = x })))
    (sym minutes.is)
    (offset_found o.sign hours.a hours.b minutes.a minutes.b p.0
    (subst (λ (x : List ℕ). are_all_digits x ≡ true) hours.is (digits_of 2 o.hours q.0))
    (subst (λ (x : List ℕ). are_all_digits x ≡ true) minutes.is (digits_of 2 o.minutes q.1))))

-- what is found at the front of a text that begins with date and clock
record FindsFront (y mo d h mi s r : List ℕ) : Type 0 where
  year : part_at (front y mo d h mi s ++ r) 0 4 ≡ y
  month : part_at (front y mo d h mi s ++ r) 5 2 ≡ mo
  day : part_at (front y mo d h mi s ++ r) 8 2 ≡ d
  hour : part_at (front y mo d h mi s ++ r) 11 2 ≡ h
  minute : part_at (front y mo d h mi s ++ r) 14 2 ≡ mi
  second : part_at (front y mo d h mi s ++ r) 17 2 ≡ s
  behind : drop 19 (front y mo d h mi s ++ r) ≡ r
  long : 19 ≤ length (front y mo d h mi s ++ r)
  marks : has_marks (front y mo d h mi s ++ r) ≡ true

front_found : (y₁ y₂ y₃ y₄ a b c d e f g h i j : ℕ) (r : List ℕ)
    → FindsFront (y₁ ∷ y₂ ∷ y₃ ∷ y₄ ∷ []) (a ∷ b ∷ []) (c ∷ d ∷ []) (e ∷ f ∷ []) (g ∷ h ∷ []) (i ∷ j ∷ []) r
front_found y₁ y₂ y₃ y₄ a b c d e f g h i j r = record {
  year = refl;
  month = refl;
  day = refl;
  hour = refl;
  minute = refl;
  second = refl;
  behind = refl;
  long = omega arith;
  marks = refl;
}

finds_front : (p : TimestampParts) (r : List ℕ) → is_front_form p ≡ true
    → FindsFront p.year p.month p.day p.hour p.minute p.second r
finds_front p r form =
    let k₁ = and_parts _ _ form in
    let k₂ = and_parts _ _ k₁.1 in
    let k₃ = and_parts _ _ k₂.1 in
    let k₄ = and_parts _ _ k₃.1 in
    let k₅ = and_parts _ _ k₄.1 in
    let y = four_digits p.year k₁.0 in
    let mo = two_digits p.month k₂.0 in
    let d = two_digits p.day k₃.0 in
    let h = two_digits p.hour k₄.0 in
    let mi = two_digits p.minute k₅.0 in
    let s = two_digits p.second k₅.1 in
    let ys : List ℕ = y.a ∷ y.b ∷ y.c ∷ y.d ∷ [] in
    let mos : List ℕ = mo.a ∷ mo.b ∷ [] in
    let ds : List ℕ = d.a ∷ d.b ∷ [] in
    let hs : List ℕ = h.a ∷ h.b ∷ [] in
    let mis : List ℕ = mi.a ∷ mi.b ∷ [] in
    subst (λ (x : List ℕ). FindsFront x p.month p.day p.hour p.minute p.second r) (sym y.is)
    (subst (λ (x : List ℕ). FindsFront ys x p.day p.hour p.minute p.second r) (sym mo.is)
    (subst (λ (x : List ℕ). FindsFront ys mos x p.hour p.minute p.second r) (sym d.is)
    (subst (λ (x : List ℕ). FindsFront ys mos ds x p.minute p.second r) (sym h.is)
    (subst (λ (x : List ℕ). FindsFront ys mos ds hs x p.second r) (sym mi.is)
    (subst (λ (x : List ℕ). FindsFront ys mos ds hs mis x r) (sym s.is)
    (front_found y.a y.b y.c y.d mo.a mo.b d.a d.b h.a h.b mi.a mi.b s.a s.b r))))))

-- a text of a timestamp's form is that of its parts
pub form_text : (s : List ℕ) → has_form s ≡ true → s ≡ timestamp_parts_text (cut_timestamp s)
form_text s h =
    let p = and_parts _ _ h in
    let q = and_parts _ _ p.0 in
    let m = and_parts _ _ q.1 in
    let long : 19 ≤ length s = nat_le_is 19 (length s) q.0 in
    let zone = zone_is (zone_behind (drop 19 s)) (and_parts _ _ p.1).1 in
    let f = front_text (cut_timestamp s) in
    front_of s long m.0
    ∙ ap (λ x. f ++ x) (sym (take-append-drop (fraction_len (drop 19 s)) (drop 19 s)))
    ∙ ap (λ x. f ++ (fraction_behind (drop 19 s) ++ x)) zone.0
  where
    nat_le_is : (a b : ℕ) → nat_le a b ≡ true → a ≤ b
    nat_le_is a b h = grind (arith, nat_tests)

-- and its parts are of that form
pub form_parts : (s : List ℕ) → has_form s ≡ true → is_timestamp_form (cut_timestamp s) ≡ true
form_parts s h =
    let p = and_parts _ _ h in
    let q = and_parts _ _ p.0 in
    let m = and_parts _ _ q.1 in
    let d = and_parts _ _ m.1 in
    let b = and_parts _ _ p.1 in
    let long : 19 ≤ length s = nat_le_is 19 (length s) q.0 in
    and_from _ _ (front_form s (fraction_behind (drop 19 s)) (zone_behind (drop 19 s)) long d.0 d.1)
    (and_from _ _ b.0 (zone_is (zone_behind (drop 19 s)) b.1).1)
  where
    nat_le_is : (a b : ℕ) → nat_le a b ≡ true → a ≤ b
    nat_le_is a b h = grind (arith, nat_tests)

-- the parts of a timestamp are found
pub record FindsParts (p : TimestampParts) : Type 0 where
  pub cut : cut_timestamp (timestamp_parts_text p) ≡ p
  pub form : has_form (timestamp_parts_text p) ≡ true

-- parts of that form are found in their text
pub finds_parts : (p : TimestampParts) → is_timestamp_form p ≡ true → FindsParts p
finds_parts p h =
    let a = and_parts _ _ h in
    let b = and_parts _ _ a.1 in
    let z = zone_text p.zone in
    let r = p.fraction ++ z in
    let s = front_text p ++ r in
    let zone = finds_zone p.zone b.1 in
    let found = finds_front p r a.0 in
    let n = len_of_fraction p.fraction z b.0 zone.no_digit zone.no_point in
    let seam = at_seam p.fraction z (fraction_len r) n in
    let f_is : fraction_behind (drop 19 s) ≡ p.fraction = ap fraction_behind found.behind ∙ seam.0 in
    let z_is : zone_behind (drop 19 s) ≡ z = ap zone_behind found.behind ∙ seam.1 in
    let zone_cut : cut_zone (zone_behind (drop 19 s)) ≡ p.zone = ap cut_zone z_is ∙ zone.cut in
    let k₁ = and_parts _ _ a.0 in
    let k₂ = and_parts _ _ k₁.1 in
    let k₃ = and_parts _ _ k₂.1 in
    let k₄ = and_parts _ _ k₃.1 in
    let k₅ = and_parts _ _ k₄.1 in
    let long : nat_le 19 (length s) ≡ true = is_nat_le 19 (length s) found.long in
    record {
      cut = same_record (part_at s 0 4) p.year (part_at s 5 2) p.month (part_at s 8 2) p.day (part_at s 11 2) p.hour
          (part_at s 14 2) p.minute (part_at s 17 2) p.second (fraction_behind (drop 19 s)) p.fraction
          (cut_zone (zone_behind (drop 19 s))) p.zone found.year found.month found.day found.hour found.minute
          found.second f_is zone_cut;
      form = and_from _ _ (and_from _ _ long (and_from _ _ found.marks (and_from _ _
          (and_from _ _ (digits_at 4 _ _ found.year k₁.0)
          (and_from _ _ (digits_at 2 _ _ found.month k₂.0) (digits_at 2 _ _ found.day k₃.0)))
          (and_from _ _ (digits_at 2 _ _ found.hour k₄.0)
          (and_from _ _ (digits_at 2 _ _ found.minute k₅.0) (digits_at 2 _ _ found.second k₅.1))))))
          (and_from _ _ (ap is_fraction f_is ∙ b.0) (ap is_zone z_is ∙ zone.passes));
    }
  where
    is_nat_le : (a b : ℕ) → a ≤ b → nat_le a b ≡ true
    is_nat_le a b h = grind (arith, nat_tests)

    digits_at : (n : ℕ) (x y : List ℕ) → x ≡ y → are_digits n y ≡ true → are_all_digits x ≡ true
    digits_at n x y e h = ap are_all_digits e ∙ digits_of n y h

    same_record : (y y' mo mo' d d' h h' mi mi' s s' f f' : List ℕ) (z z' : Option OffsetParts)
        → y ≡ y' → mo ≡ mo' → d ≡ d' → h ≡ h' → mi ≡ mi' → s ≡ s' → f ≡ f' → z ≡ z'
        → ◌≡◌ {A = TimestampParts}
        (record { year = y; month = mo; day = d; hour = h; minute = mi; second = s; fraction = f; zone = z })
        (record { year = y'; month = mo'; day = d'; hour = h'; minute = mi'; second = s'; fraction = f'; zone = z' })
    same_record y y' mo mo' d d' h h' mi mi' s s' f f' z z' e₁ e₂ e₃ e₄ e₅ e₆ e₇ e₈ = cc

-- a text is a timestamp's of one list of parts alone
pub same_parts : (s : List ℕ) (p : TimestampParts) → IsTimestampText s p → cut_timestamp s ≡ p
same_parts s p w = ap cut_timestamp w.text_is ∙ (finds_parts p w.form).cut

-- and that text is of the form
pub same_form : (s : List ℕ) (p : TimestampParts) → IsTimestampText s p → has_form s ≡ true
same_form s p w = ap has_form w.text_is ∙ (finds_parts p w.form).form
