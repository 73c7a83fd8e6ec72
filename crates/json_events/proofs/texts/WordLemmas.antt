-- The machine of words accepts the spelled marks and nothing else.
use Rattle.std.proofs.Common.{◌≡◌, ℕ, suc, ◌+◌, ◌<◌, Bool, true, false, cond, eqb, List, [], ◌∷◌, ◌++◌, length, get_or, drop, Option, Some, None, inl, inr, refl, sym, ap, ◌∙◌, subst, arith, append_assoc}
use Rattle.std.specs.Prelude.{⊤, slice_get, option_map}
use Rattle.std.proofs.lemmas.Bool.{cond_both, eqb-true}
use Rattle.std.proofs.lemmas.List.{drop_all, append-nil}
use Rattle.std.proofs.lemmas.Option.{slice_get_within, slice_get_past, get_or_from_slice_get}
use Rattle.std.proofs.Math.Seq.{drop-cons}
use Rattle.json_events.specs.declared.state.Bracket.TheVariants.{Array, Object}
use Rattle.json_events.specs.declared.state.Name.{Name}
use Rattle.json_events.specs.declared.state.Name.TheVariants as names
use Rattle.json_events.specs.declared.state.WordState.{WordState}
use Rattle.json_events.specs.declared.state.WordState.TheVariants.{Open, Close, Comma, Colon, Literal, Inside, Minus, Zero, Whole, Point, Fraction, Exponent, Sign, Power}
use Rattle.json_events.specs.declared.state.StringState.{StringState}
use Rattle.json_events.specs.declared.state.StringState.TheVariants.{Plain, Continuation, Escape, Hex, LowSolidus, LowU, Low, Closed}
use Rattle.json_events.specs.JsonStrings.{IsString}
use Rattle.json_events.specs.StringSteps.{more_string, string_adds, string_end, string_from}
use Rattle.json_events.specs.JsonTree.{Mark, opens, closes, comma, colon, digits, name}
use Rattle.json_events.specs.NestingSteps.{kind_of}
use Rattle.json_events.specs.JsonText.{spelling, IsWord}
use Rattle.json_events.specs.WordSteps.{is_digit, is_e, is_sign}
use Rattle.json_events.specs.JsonNumbers.{IsNumber}
use Rattle.json_events.specs.WordSteps.{Word, word, begin, some_digit, letter, more_state, is_number, held_on, text_mark, mark_of, kind_state, word_from}
use Rattle.json_events.proofs.numbers.NumberWords.{IsLast, Accepts, from_choice, tail_of_accepts, number_of_unsigned}
use Rattle.json_events.proofs.strings.StringWords.{string_of_machine}

-- a word by its parts
abbrev pub of : WordState → Bool → List ℕ → Word
of l k held = record { state = l; is_key = k; held = held }

-- the word, where it goes on, is a number
abbrev pub NumberAt : Option WordState → Type 0
NumberAt None = ⊤
NumberAt (Some l) = is_number l ≡ true

-- a number that goes on is a number
pub stays : (l : WordState) (b : ℕ) → is_number l ≡ true → NumberAt (more_state l b)
stays (Open k) b h = tt
stays (Close k) b h = tt
stays Comma b h = tt
stays Colon b h = tt
stays (Literal n k) b h = absurd (cc)
stays (Inside s) b h = absurd (cc)
stays Minus b h = cond_both (eqb b 48) _ _ NumberAt (λ _. refl) (λ _. (cond_both (is_digit b) _ _ NumberAt (λ _. refl) (λ _. tt)))
stays Zero b h = cond_both (eqb b 46) _ _ NumberAt (λ _. refl) (λ _. (cond_both (is_e b) _ _ NumberAt (λ _. refl) (λ _. tt)))
stays Whole b h = cond_both (is_digit b) _ _ NumberAt (λ _. refl) (λ _. (cond_both (eqb b 46) _ _ NumberAt (λ _. refl) (λ _. (cond_both (is_e b) _ _ NumberAt (λ _. refl) (λ _. tt)))))
stays Point b h = cond_both (is_digit b) _ _ NumberAt (λ _. refl) (λ _. tt)
stays Fraction b h = cond_both (is_digit b) _ _ NumberAt (λ _. refl) (λ _. (cond_both (is_e b) _ _ NumberAt (λ _. refl) (λ _. tt)))
stays Exponent b h = cond_both (is_sign b) _ _ NumberAt (λ _. refl) (λ _. (cond_both (is_digit b) _ _ NumberAt (λ _. refl) (λ _. tt)))
stays Sign b h = cond_both (is_digit b) _ _ NumberAt (λ _. refl) (λ _. tt)
stays Power b h = cond_both (is_digit b) _ _ NumberAt (λ _. refl) (λ _. tt)

-- a number that may end is its digits
pub last_mark : (l : WordState) (i : Bool) (held : List ℕ) (m : Mark) → is_number l ≡ true → mark_of l i held ≡ Some m → IsLast l × (m ≡ digits held)
last_mark (Open k) i held m n h = absurd (cc)
last_mark (Close k) i held m n h = absurd (cc)
last_mark Comma i held m n h = absurd (cc)
last_mark Colon i held m n h = absurd (cc)
last_mark (Literal a k) i held m n h = absurd (cc)
last_mark (Inside s) i held m n h = absurd (cc)
last_mark Minus i held m n h = absurd (cc)
last_mark Zero i held m n h = (tt, cc)
last_mark Whole i held m n h = (tt, cc)
last_mark Point i held m n h = absurd (cc)
last_mark Fraction i held m n h = (tt, cc)
last_mark Exponent i held m n h = absurd (cc)
last_mark Sign i held m n h = absurd (cc)
last_mark Power i held m n h = (tt, cc)

mark_last : (l : WordState) (i : Bool) (held : List ℕ) → IsLast l → mark_of l i held ≡ Some (digits held)
mark_last (Open k) i held h = absurd h
mark_last (Close k) i held h = absurd h
mark_last Comma i held h = absurd h
mark_last Colon i held h = absurd h
mark_last (Literal a k) i held h = absurd h
mark_last (Inside s) i held h = absurd h
mark_last Minus i held h = absurd h
mark_last Zero i held h = refl
mark_last Whole i held h = refl
mark_last Point i held h = absurd h
mark_last Fraction i held h = refl
mark_last Exponent i held h = absurd h
mark_last Sign i held h = absurd h
mark_last Power i held h = refl

-- a number keeps its bytes
pub number_held : (l : WordState) (held : List ℕ) (b : ℕ) → is_number l ≡ true → held_on l held b ≡ held ++ b ∷ []
number_held (Open k) held b n = absurd (cc)
number_held (Close k) held b n = absurd (cc)
number_held Comma held b n = absurd (cc)
number_held Colon held b n = absurd (cc)
number_held (Literal a k) held b n = absurd (cc)
number_held (Inside s) held b n = absurd (cc)
number_held Minus held b n = refl
number_held Zero held b n = refl
number_held Whole held b n = refl
number_held Point held b n = refl
number_held Fraction held b n = refl
number_held Exponent held b n = refl
number_held Sign held b n = refl
number_held Power held b n = refl

-- a number: what comes is accepted, and the mark is all that was held and came
pub number_sound : (t : List ℕ) (l : WordState) (k : Bool) (held : List ℕ) (m : Mark) → is_number l ≡ true → word_from (Some (of l k held)) t ≡ Some m → Accepts (Some l) t × (m ≡ digits (held ++ t))
number_sound [] l k held m n h = let x = last_mark l k held m n h in (x.0, x.1 ∙ ap digits (sym (append-nil held)))
number_sound (b ∷ t) l k held m n h = by_step (λ v. number_sound t v k (held ++ b ∷ []) m) (more_state l b) (stays l b n) (subst (λ (x : List ℕ). word_from (option_map (λ v. of v k x) (more_state l b)) t ≡ Some m) (number_held l held b n) h)
  where
    by_step : ((v : WordState) → is_number v ≡ true → word_from (Some (of v k (held ++ b ∷ []))) t ≡ Some m → Accepts (Some v) t × (m ≡ digits ((held ++ b ∷ []) ++ t))) → (o : Option WordState) → NumberAt o → word_from (option_map (λ v. of v k (held ++ b ∷ [])) o) t ≡ Some m → Accepts o t × (m ≡ digits (held ++ b ∷ t))
    by_step ih None s e = absurd (cc)
    by_step ih (Some v) s e = let x = ih v s e in (x.0, x.1 ∙ ap digits (append_assoc held (b ∷ []) t))

-- the machine accepts what ends a number
pub number_complete : (t : List ℕ) (l : WordState) (k : Bool) (held : List ℕ) → is_number l ≡ true → Accepts (Some l) t → word_from (Some (of l k held)) t ≡ Some (digits (held ++ t))
number_complete [] l k held n a = mark_last l k held a ∙ ap (λ x. Some (digits x)) (sym (append-nil held))
number_complete (b ∷ t) l k held n a = ap (λ (x : List ℕ). word_from (option_map (λ v. of v k x) (more_state l b)) t) (number_held l held b n) ∙ by_step (λ v. number_complete t v k (held ++ b ∷ [])) (more_state l b) (stays l b n) a
  where
    by_step : ((v : WordState) → is_number v ≡ true → Accepts (Some v) t → word_from (Some (of v k (held ++ b ∷ []))) t ≡ Some (digits ((held ++ b ∷ []) ++ t))) → (o : Option WordState) → NumberAt o → Accepts o t → word_from (option_map (λ v. of v k (held ++ b ∷ [])) o) t ≡ Some (digits (held ++ b ∷ t))
    by_step ih None s e = absurd e
    by_step ih (Some v) s e = ih v s e ∙ ap (λ x. Some (digits x)) (append_assoc held (b ∷ []) t)

-- a literal name
letters_sound : (t : List ℕ) (n : Name) (i : ℕ) (k : Bool) (held : List ℕ) (m : Mark) → word_from (Some (of (Literal n i) k held)) t ≡ Some m → (m ≡ name n) × (t ≡ drop i (spelling n))
letters_sound [] n i k held m h =
    from_choice {X = Option Mark} (λ o. o ≡ Some m) (eqb i (length (spelling n))) (Some (name n)) None
    (λ e x. (cc, sym (drop_all i (spelling n) (omega (arith, eqb-true i (length (spelling n)) e)))))
    (λ _ x. absurd (cc))
    h
letters_sound (b ∷ t) n i k held m h = by_letter (letters_sound t n (i + 1) k held m) (slice_get (spelling n) i) refl h
  where
    by_letter : (word_from (Some (of (Literal n (i + 1)) k held)) t ≡ Some m → (m ≡ name n) × (t ≡ drop (i + 1) (spelling n))) → (o : Option ℕ) → slice_get (spelling n) i ≡ o → word_from (option_map (λ v. of v k held) (letter n i o b)) t ≡ Some m → (m ≡ name n) × (b ∷ t ≡ drop i (spelling n))
    by_letter ih None e x = absurd (cc)
    by_letter ih (Some c) e x =
        from_choice (λ o. word_from (option_map (λ v. of v k held) o) t ≡ Some m) (eqb b c) (Some (Literal n (i + 1))) None
        (λ same y.
        let r = ih y in
        let within : i < length (spelling n) = slice_get_within (spelling n) i c e in
        let at_i : get_or (spelling n) i 0 ≡ c = get_or_from_slice_get (spelling n) i c 0 e in
        let next : suc i ≡ i + 1 = omega arith in
        (r.0, sym (drop-cons (spelling n) i 0 within ∙ (λ j. (at_i ∙ sym (eqb-true b c same)) j ∷ drop (suc i) (spelling n)) ∙ ap (λ l. b ∷ l) (ap (λ j. drop j (spelling n)) next ∙ sym r.1))))
        (λ _ y. absurd (cc))
        x

-- a word that is whole by itself takes no more
sign_ends : (l : WordState) (k : Bool) (held t : List ℕ) (m n : Mark) → ((b : ℕ) → more_state l b ≡ None) → mark_of l k held ≡ Some m → word_from (Some (of l k held)) t ≡ Some n → (t ≡ []) × (n ≡ m)
sign_ends l k held [] m n none h e = (refl, cc)
sign_ends l k held (b ∷ t) m n none h e =
    let stuck : word_from (Some (of l k held)) (b ∷ t) ≡ None = ap (λ o. word_from (option_map (λ v. of v k (held_on l held b)) o) t) (none b) in
    absurd (cc)

full_letter : (n : Name) (i b : ℕ) (k : Bool) (m : Mark) → mark_of (Literal n i) k [] ≡ Some m → more_state (Literal n i) b ≡ None
full_letter n i b k m h = from_choice {X = Option Mark} (λ o. o ≡ Some m) (eqb i (length (spelling n))) (Some (name n)) None
    (λ e _. ap (λ o. letter n i o b) (slice_get_past (spelling n) i (omega (arith, eqb-true i (length (spelling n)) e))))
    (λ _ x. absurd (cc))
    h

-- a string that is whole takes no more
text_ends : (s : StringState) (k : Bool) (held t : List ℕ) (m n : Mark) → mark_of (Inside s) k held ≡ Some m → word_from (Some (of (Inside s) k held)) t ≡ Some n → (t ≡ []) × (n ≡ m)
text_ends Plain k held t m n h e = absurd (cc)
text_ends (Continuation x y z) k held t m n h e = absurd (cc)
text_ends Escape k held t m n h e = absurd (cc)
text_ends (Hex x y) k held t m n h e = absurd (cc)
text_ends (LowSolidus x) k held t m n h e = absurd (cc)
text_ends (LowU x) k held t m n h e = absurd (cc)
text_ends (Low x y z) k held t m n h e = absurd (cc)
text_ends Closed k held t m n h e = sign_ends (Inside Closed) k held t m n (λ b. refl) h e

-- a word that is whole and no number has no further byte
pub closed_ends : (l : WordState) (k : Bool) (held t : List ℕ) (m n : Mark) → is_number l ≡ false → mark_of l k held ≡ Some m → word_from (Some (of l k held)) t ≡ Some n → (t ≡ []) × (n ≡ m)
closed_ends (Open b) k held t m n f h e = sign_ends (Open b) k held t m n (λ b. refl) h e
closed_ends (Close b) k held t m n f h e = sign_ends (Close b) k held t m n (λ b. refl) h e
closed_ends Comma k held t m n f h e = sign_ends Comma k held t m n (λ b. refl) h e
closed_ends Colon k held t m n f h e = sign_ends Colon k held t m n (λ b. refl) h e
closed_ends (Literal a i) k held t m n f h e = sign_ends (Literal a i) k held t m n (λ b. full_letter a i b k m h) h e
closed_ends (Inside s) k held t m n f h e = text_ends s k held t m n h e
closed_ends Minus k held t m n f h e = absurd (cc)
closed_ends Zero k held t m n f h e = absurd (cc)
closed_ends Whole k held t m n f h e = absurd (cc)
closed_ends Point k held t m n f h e = absurd (cc)
closed_ends Fraction k held t m n f h e = absurd (cc)
closed_ends Exponent k held t m n f h e = absurd (cc)
closed_ends Sign k held t m n f h e = absurd (cc)
closed_ends Power k held t m n f h e = absurd (cc)

-- a string: the machine of strings accepts what comes
text_sound : (t : List ℕ) (s : StringState) (k : Bool) (held : List ℕ) (m : Mark) → word_from (Some (of (Inside s) k held)) t ≡ Some m → (all : List ℕ) × (string_from (Some s) held t ≡ Some all) × (m ≡ text_mark k all)
text_sound [] s k held m h = by_end (string_end s held) h
  where
    by_end : (o : Option (List ℕ)) → option_map (text_mark k) o ≡ Some m → (all : List ℕ) × (o ≡ Some all) × (m ≡ text_mark k all)
    by_end None e = absurd (cc)
    by_end (Some all) e = (all, refl, cc)
text_sound (b ∷ t) s k held m h = by_more (λ v. text_sound t v k (held ++ string_adds s b) m) (more_string s b) h
  where
    by_more : ((v : StringState) → word_from (Some (of (Inside v) k (held ++ string_adds s b))) t ≡ Some m → (all : List ℕ) × (string_from (Some v) (held ++ string_adds s b) t ≡ Some all) × (m ≡ text_mark k all)) → (o : Option StringState) → word_from (option_map (λ l. of l k (held ++ string_adds s b)) (option_map Inside o)) t ≡ Some m → (all : List ℕ) × (string_from o (held ++ string_adds s b) t ≡ Some all) × (m ≡ text_mark k all)
    by_more ih None e = absurd (cc)
    by_more ih (Some v) e = ih v e

-- the machine of words accepts what ends a string
pub text_complete : (t : List ℕ) (s : StringState) (k : Bool) (held all : List ℕ) → string_from (Some s) held t ≡ Some all → word_from (Some (of (Inside s) k held)) t ≡ Some (text_mark k all)
text_complete [] s k held all h = ap (option_map (text_mark k)) h
text_complete (b ∷ t) s k held all h = by_more (λ v. text_complete t v k (held ++ string_adds s b) all) (more_string s b) h
  where
    by_more : ((v : StringState) → string_from (Some v) (held ++ string_adds s b) t ≡ Some all → word_from (Some (of (Inside v) k (held ++ string_adds s b))) t ≡ Some (text_mark k all)) → (o : Option StringState) → string_from o (held ++ string_adds s b) t ≡ Some all → word_from (option_map (λ l. of l k (held ++ string_adds s b)) (option_map Inside o)) t ≡ Some (text_mark k all)
    by_more ih None e = absurd (cc)
    by_more ih (Some v) e = ih v e

-- a string is a key or a text
text_word : (k : Bool) (s w : List ℕ) → IsString s w → IsWord (text_mark k s) w × (kind_of (text_mark k s) ≡ kind_state (Inside Plain) k)
text_word true s w h = (h, refl)
text_word false s w h = (h, refl)

-- what the word is that begins with a byte
abbrev pub Meant : ℕ → Word → List ℕ → Mark → Type 0
Meant b w t m = IsWord m (b ∷ t) × (kind_of m ≡ kind_state w.state w.is_key)

number_word : (b : ℕ) (t s : List ℕ) (m : Mark) → m ≡ digits (b ∷ t) → IsNumber (b ∷ t) → IsWord m (b ∷ t) × (kind_of m ≡ kind_of (digits []))
number_word b t s m e n = subst (λ x. IsWord x (b ∷ t) × (kind_of x ≡ kind_of (digits []))) (sym e) ((refl, n), refl)

module _ (k : Bool) (b : ℕ) (w : Word) (t : List ℕ) (m : Mark) (whole : word_from (Some w) t ≡ Some m) where
  -- by the word that it is
  is_the : (v : Word) → word v.state v.is_key v.held ≡ Some w → (word_from (Some v) t ≡ Some m → Meant b v t m) → Meant b w t m
  is_the v e f = let same : v ≡ w = cc in subst (λ x. Meant b x t m) same (f (subst (λ x. word_from (Some x) t ≡ Some m) (sym same) whole))

  the_sign : (l : WordState) (n : Mark) (c : ℕ) → ((x : ℕ) → more_state l x ≡ None) → mark_of l k [] ≡ Some n → kind_of n ≡ kind_state l k → IsWord n (c ∷ []) → b ≡ c → word l k [] ≡ Some w → Meant b w t m
  the_sign l n c none mark kind is_word same e = is_the (of l k []) e (λ h.
      let r = sign_ends l k [] t n m none mark h in
      (subst (λ x. IsWord x (b ∷ t)) (sym r.1) (subst (λ (x : List ℕ). IsWord n x) (λ i. sym same i ∷ sym r.0 i) is_word), ap kind_of r.1 ∙ kind))

  the_name : (n : Name) (c : ℕ) → spelling n ≡ c ∷ drop 1 (spelling n) → b ≡ c → word (Literal n 1) k [] ≡ Some w → Meant b w t m
  the_name n c first same e = is_the (of (Literal n 1) k []) e (λ h.
      let r = letters_sound t n 1 k [] m h in
      (subst (λ x. IsWord x (b ∷ t)) (sym r.0) ((λ i. same i ∷ r.1 i) ∙ sym first), ap kind_of r.0))

  the_number : (l : WordState) → is_number l ≡ true → kind_state l k ≡ kind_of (digits []) → (Accepts (Some l) t → IsNumber (b ∷ t)) → word l k (b ∷ []) ≡ Some w → Meant b w t m
  the_number l n kind f e = is_the (of l k (b ∷ [])) e (λ h.
      let r = number_sound t l k (b ∷ []) m n h in
      let x = number_word b t [] m r.1 (f r.0) in
      (x.0, x.1 ∙ sym kind))

  the_text : b ≡ 34 → word (Inside Plain) k [] ≡ Some w → Meant b w t m
  the_text same e = is_the (of (Inside Plain) k []) e (λ h.
      let r = text_sound t Plain k [] m h in
      let is : IsString r.0 (b ∷ t) = subst (λ x. IsString r.0 (x ∷ t)) (sym same) (string_of_machine t r.0 r.1) in
      subst (λ x. IsWord x (b ∷ t) × (kind_of x ≡ kind_state (Inside Plain) k)) (sym r.2) (text_word k r.0 (b ∷ t) is))

  unsigned : Accepts (more_state Minus b) t → IsNumber (b ∷ t)
  unsigned a = number_of_unsigned [] (b ∷ t) (inl refl) (tail_of_accepts (b ∷ t) (Some Minus) a)

  abbrev Is : Option Word → Type 0
  Is o = o ≡ Some w

  pub begin_sound : begin k b ≡ Some w → Meant b w t m
  begin_sound h =
      from_choice Is (eqb b 34) _ _ (λ e. the_text (eqb-true b 34 e)) (λ _.
      from_choice Is (eqb b 91) _ _ (λ e. the_sign (Open Array) (opens Array) 91 (λ x. refl) refl refl refl (eqb-true b 91 e)) (λ _.
      from_choice Is (eqb b 93) _ _ (λ e. the_sign (Close Array) (closes Array) 93 (λ x. refl) refl refl refl (eqb-true b 93 e)) (λ _.
      from_choice Is (eqb b 123) _ _ (λ e. the_sign (Open Object) (opens Object) 123 (λ x. refl) refl refl refl (eqb-true b 123 e)) (λ _.
      from_choice Is (eqb b 125) _ _ (λ e. the_sign (Close Object) (closes Object) 125 (λ x. refl) refl refl refl (eqb-true b 125 e)) (λ _.
      from_choice Is (eqb b 44) _ _ (λ e. the_sign Comma comma 44 (λ x. refl) refl refl refl (eqb-true b 44 e)) (λ _.
      from_choice Is (eqb b 58) _ _ (λ e. the_sign Colon colon 58 (λ x. refl) refl refl refl (eqb-true b 58 e)) (λ _.
      from_choice Is (eqb b 45) _ _ (λ e. the_number Minus refl refl (λ a. number_of_unsigned (b ∷ []) t (inr (ap (λ x. x ∷ []) (eqb-true b 45 e))) (tail_of_accepts t (Some Minus) a))) (λ _.
      from_choice Is (eqb b 48) _ _ (λ z. the_number Zero refl refl (λ a. unsigned (subst (λ o. Accepts o t) (ap (λ (u : Bool). cond u (Some Zero) (some_digit Whole b)) (sym z)) a))) (λ nz.
      from_choice Is (is_digit b) _ _ (λ d. the_number Whole refl refl (λ a. unsigned (subst (λ o. Accepts o t) (sym (ap (λ (u : Bool). cond u (Some Zero) (some_digit Whole b)) nz ∙ ap (λ (u : Bool). cond u (Some Whole) None) d)) a))) (λ _.
      from_choice Is (eqb b 116) _ _ (λ e. the_name names.True 116 refl (eqb-true b 116 e)) (λ _.
      from_choice Is (eqb b 102) _ _ (λ e. the_name names.False 102 refl (eqb-true b 102 e)) (λ _.
      from_choice Is (eqb b 110) _ _ (λ e. the_name names.Null 110 refl (eqb-true b 110 e)) (λ _.
      (λ e. absurd (cc))
      )))))))))))))
      h
