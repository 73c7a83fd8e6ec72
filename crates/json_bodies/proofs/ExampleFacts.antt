-- Worked bodies, by the reader's machine, which tells of any bytes whether they are a text.
use Rattle.std.proofs.Common.{◌≡◌, ◌∙◌, ◌≤◌, ◌+◌, inl, inr, arith, sym, ap, subst, refl, append-nil, append_assoc, codes, ℕ, List, [], ◌∷◌, ◌++◌, length, take, Option, Some, None}
use Rattle.std.specs.List.{AllByRecursion}
use Rattle.std.proofs.lemmas.List.{append_cancel_left}
use Rattle.base.specs.Saturated.{saturated}
use Rattle.json_events.specs.JsonText.{BeginsText, IsTextWith, Span, marks_of, with_token}
use Rattle.json_events.specs.JsonTokens.{AreTokensOf, Awaits, HasEnded, HasNotEnded, HaveEndedIn}
use Rattle.json_events.specs.JsonTree.{Json, array, closes, digits, item, key, literal, name, no_items, number, opens}
use Rattle.json_events.specs.ReaderAnswers.{pending_word}
use Rattle.json_events.specs.ReaderState.{ReaderState, Stands, StandsByFault, word_at}
use Rattle.json_events.specs.ReadingSteps.{gap, reads, start}
use Rattle.json_events.specs.declared.state.Bracket.{Bracket}
use Rattle.json_events.specs.declared.state.Bracket.TheVariants.{Array, Object}
use Rattle.json_events.specs.declared.state.Name.TheVariants as names
use Rattle.json_events.specs.declared.state.Want.{Want}
use Rattle.json_events.specs.declared.state.Want.TheVariants as want
use Rattle.json_events.specs.declared.state.WordState.{WordState}
use Rattle.json_meanings.specs.ExampleTypes.{book, books, one_pair}
use Rattle.json_meanings.specs.JsonScalars.{Schema}
use Rattle.json_meanings.specs.ReadingLaws.{ReadingLawsHold}
use Rattle.json_meanings.specs.declared.fault.FieldKind.TheVariants.{BadNumber, NullInside, WrongShape}
use Rattle.message_types.specs.declared.messages.TypeId.{TypeId}
use Rattle.json_bodies.proofs.FrontLemmas.{front_is_whole}
use Rattle.json_bodies.specs.FrontFaults.{IsFrontFault, ShowsNoFault}
use Rattle.json_bodies.specs.WholeMessages.{HasNoFault, IsBodyFault, IsNoText}
use Rattle.json_bodies.specs.declared.fault.BodyFault.TheVariants.{Field, Syntax}

-- the token of the text `null`
abbrev null_token : List Span
null_token = with_token (name names.Null) 0 4 []

-- the text `null`
null_text : IsTextWith (literal names.Null) (codes "null") null_token
null_text = (codes "", codes "null", codes "", _, refl, refl, refl, (refl, refl), refl)

-- nothing is told of what is no text
no_tokens : (ts : List Span) → ◌≡◌ {A = Option (List Span)} None (Some ts) → ⊥
no_tokens ts e = cc e

-- a place from which `null` is not read is none where a text begins
null_refused : ((j : Json) × IsTextWith j (codes "null") null_token
    → ◌≡◌ {A = Option (List Span)} None (Some null_token)) → ⊥
null_refused tells = no_tokens null_token (tells (literal names.Null, null_text))

-- a reader to which nothing came stands where the machine begins, since it reads `null`
starts : (w : Want) (around : List Bracket) → Awaits (gap (record { want = w; around = around }) 0) [] []
    → Awaits start [] []
starts want.Value [] a = a
starts want.Value (b ∷ st) a = absurd (null_refused (a.completes (codes "null") null_token).0)
starts want.FirstItem st a = absurd (null_refused (a.completes (codes "null") null_token).0)
starts want.FirstKey st a = absurd (null_refused (a.completes (codes "null") null_token).0)
starts want.Key st a = absurd (null_refused (a.completes (codes "null") null_token).0)
starts want.Colon st a = absurd (null_refused (a.completes (codes "null") null_token).0)
starts want.After [] a = absurd (null_refused (a.completes (codes "null") null_token).0)
starts want.After (Array ∷ st) a = absurd (null_refused (a.completes (codes "null") null_token).0)
starts want.After (Object ∷ st) a = absurd (null_refused (a.completes (codes "null") null_token).0)

-- so the machine tells of any bytes whether they are a text
pub machine : (r : ReaderState) → r.fault ≡ None → Stands r [] [] → pending_word r.reading.word ≡ 0
    → Awaits start [] []
machine r fresh stands idle =
    let by = subst (λ f. StandsByFault f r.reading [] []) fresh stands.by in
    by_word r.reading.word by.start idle by.awaits
  where
    by_word : (w : Option WordState) (from : ℕ) → pending_word w ≡ 0
        → Awaits (word_at w r.reading.is_key r.reading.held r.reading.place from 0) [] [] → Awaits start [] []
    by_word None from e a = starts r.reading.place.want r.reading.place.around a
    by_word (Some l) from e a = absurd (cc e)

-- what the examples rest on: the machine, one list of tokens for bytes, and what is known of readings
pub record ExampleLaws : Type 0 where
  pub told : Awaits start [] []
  pub some : (b : List ℕ) → BeginsText b → (ts : List Span) × AreTokensOf b ts
  pub first : (bytes : List ℕ) (ts us : List Span) → HaveEndedIn bytes ts → AreTokensOf bytes us
      → (rest : List Span) × (us ≡ ts ++ rest)
  pub same : (p s t : List ℕ) (j k : Json) (ts others all : List Span) → IsTextWith j (p ++ s) (ts ++ others)
      → AllByRecursion (HasEnded (length p)) ts → IsTextWith k (p ++ t) all → (rest : List Span) × (all ≡ ts ++ rest)
  pub readings : (c : Schema) (id : TypeId) (n : Option ℕ) → ReadingLawsHold c id n

module _ (laws : ExampleLaws) where
  -- of bytes with which a text begins these are the tokens, where those behind them in the text have not ended
  are_tokens : (bytes t : List ℕ) (ts more : List Span) (k : Json) → HaveEndedIn bytes ts
      → IsTextWith k (bytes ++ t) (ts ++ more) → AllByRecursion (HasNotEnded (length bytes)) more
      → AreTokensOf bytes ts
  are_tokens bytes t ts more k ended text last =
      let us = laws.some bytes (t, k, (ts ++ more, text)) in
      let rest = laws.first bytes ts us.0 ended us.1 in
      let begins = us.1.begins in
      let all = laws.same bytes begins.0 t begins.2 k us.0 begins.1 (ts ++ more) begins.3 us.1.ended text in
      by_rest us.0 us.1 rest.0 rest.1 all.0
      (append_cancel_left ts more (rest.0 ++ all.0)
      (all.1 ∙ ap (λ (l : List Span). l ++ all.0) rest.1 ∙ append_assoc ts rest.0 all.0))
    where
      one_ended : (ts : List Span) (x : Span) (rest : List Span)
          → AllByRecursion (HasEnded (length bytes)) (ts ++ x ∷ rest) → HasEnded (length bytes) x
      one_ended [] x rest h = h.0
      one_ended (y ∷ ys) x rest h = one_ended ys x rest h.1

      by_rest : (us : List Span) → AreTokensOf bytes us → (rest : List Span) → us ≡ ts ++ rest
          → (others : List Span) → more ≡ rest ++ others → AreTokensOf bytes ts
      by_rest us are [] e others q = subst (AreTokensOf bytes) (e ∙ append-nil ts) are
      by_rest us are (x ∷ rest) e others q =
          let split = subst (AllByRecursion (HasNotEnded (length bytes))) q last in
          let whole = subst (AllByRecursion (HasEnded (length bytes))) e are.ended in
          absurd (one_ended ts x rest whole split.0)

  -- what the machine reads is a text
  text_of : (bytes : List ℕ) (ts : List Span) → reads start bytes ≡ Some ts → (j : Json) × IsTextWith j bytes ts
  text_of bytes ts e = (laws.told.completes bytes ts).1 e

  -- and what it does not is none
  no_text : (bytes : List ℕ) → reads start bytes ≡ None → IsNoText bytes
  no_text bytes e j x = no_tokens x.0 (sym e ∙ (laws.told.completes bytes x.0).0 (j, x.1))

  -- tokens that have ended in bytes, by a text that goes on from there
  ended : (bytes more : List ℕ) (ts others : List Span) (count : ℕ) → count ≤ length bytes
      → reads start (take count bytes ++ more) ≡ Some (ts ++ others) → AllByRecursion (HasEnded count) ts
      → HaveEndedIn bytes ts
  ended bytes more ts others count within e all =
      let x = text_of (take count bytes ++ more) (ts ++ others) e in
      record { count = count; within = within; begins = (more, others, x.0, x.1); ended = all }

  -- ` null` is no book, whatever follows
  pub null_shown_for_a_book : (place at : ℕ) → at ≡ saturated (place + 1)
      → IsFrontFault books book None place (codes " null") (Field at WrongShape)
  null_shown_for_a_book place at e = (
    with_token (name names.Null) 1 5 [],
    ended (codes " null") [] (with_token (name names.Null) 1 5 []) [] 5 (omega arith) refl (λ h. omega (arith, h), tt),
    record {
      before = [];
      token = record { mark = name names.Null; from = 1; to = 5 };
      behind = [];
      split = refl;
      first = (omega arith, (literal names.Null, [], refl, refl));
      at_is = e;
    },
  )

  pub null_for_a_book : (place at : ℕ) → at ≡ saturated (place + 1)
      → IsBodyFault books book None place (codes " null") (Field at WrongShape)
  null_for_a_book place at e =
      front_is_whole books book None place (codes " null") (Field at WrongShape) (null_shown_for_a_book place at e)

  -- ` 1.5` is no number of pages
  pub half_at_the_end : (place at : ℕ) → at ≡ saturated (place + 1)
      → IsBodyFault books book (Some 3) place (codes " 1.5") (Field at BadNumber)
  half_at_the_end place at e = (
    with_token (digits (codes "1.5")) 1 4 [],
    inr (text_of (codes " 1.5") (with_token (digits (codes "1.5")) 1 4 []) refl),
    record {
      before = [];
      token = record { mark = digits (codes "1.5"); from = 1; to = 4 };
      behind = [];
      split = refl;
      first = (omega arith, (number (codes "1.5"), [], refl, refl));
      at_is = e;
    },
  )

  -- `[null}` has null in a list before it breaks
  pub before_the_break : (place at : ℕ) → at ≡ saturated (place + 1)
      → IsBodyFault books book (Some 4) place (codes "[null}") (Field at NullInside)
  before_the_break place at e = (
    with_token (opens Array) 0 1 (with_token (name names.Null) 1 5 []),
    inl (ended (codes "[null}") (codes "]") (with_token (opens Array) 0 1 (with_token (name names.Null) 1 5 []))
        (with_token (closes Array) 5 6 []) 5 (omega arith) refl (λ h. omega (arith, h), (λ h. omega (arith, h), tt))),
    record {
      before = with_token (opens Array) 0 1 [];
      token = record { mark = name names.Null; from = 1; to = 5 };
      behind = [];
      split = refl;
      first = (omega arith, (array (item (literal names.Null) no_items), _, refl, refl));
      at_is = e;
    },
  )

  -- no bytes have no token
  no_token : AreTokensOf [] []
  no_token =
      are_tokens [] (codes "null") [] null_token (literal names.Null)
      (ended [] (codes "null") [] null_token 0 (omega arith) refl tt) null_text (omega arith, tt)

  -- and no token no fault
  nothing_without_fault : HasNoFault books book None []
  nothing_without_fault f h = absurd (omega (arith, h.0))

  -- no bytes are no text
  pub empty : (place at : ℕ) → at ≡ saturated (place + 0) → IsBodyFault books book None place [] (Syntax at)
  empty place at e = (
    [],
    0,
    e,
    record {
      no_text = no_text [] refl;
      front = record {
        within = omega arith;
        begins = (codes "null", literal names.Null, (_, null_text));
        longest = λ less. absurd (omega (arith, less));
      };
      tokens = no_token;
    },
    nothing_without_fault,
  )

  -- the tokens before the number of pages
  abbrev up_to_pages : List Span
  up_to_pages = with_token (opens Object) 0 1 (with_token (key (codes "pageCount")) 1 12 [])

  -- they have no fault, as with null behind them
  pages_without_fault : HasNoFault books book None up_to_pages
  pages_without_fault f h =
      (laws.readings books book None).begins_none (marks_of up_to_pages) f h
      (one_pair (codes "pageCount") (literal names.Null), _, _, refl, refl)

  -- the tokens behind them, where the number ends the object
  abbrev behind_pages : List Span
  behind_pages = with_token (digits (codes "1.5")) 13 16 (with_token (closes Object) 16 17 [])

  -- a text that goes on from the number
  pages_whole : (j : Json) × IsTextWith j (codes "{\"pageCount\":1.5}") (up_to_pages ++ behind_pages)
  pages_whole = text_of (codes "{\"pageCount\":1.5}") (up_to_pages ++ behind_pages) refl

  -- the number of `{"pageCount":1.5` has not ended
  pages_tokens : AreTokensOf (codes "{\"pageCount\":1.5") up_to_pages
  pages_tokens =
      let bytes = codes "{\"pageCount\":1.5" in
      are_tokens bytes (codes "}") up_to_pages behind_pages pages_whole.0
      (ended bytes (codes "}") up_to_pages behind_pages 16 (omega arith) refl
      (λ h. omega (arith, h), (λ h. omega (arith, h), tt))) pages_whole.1 (omega arith, (omega arith, tt))

  -- and so it is no text
  pub cut_behind_a_number : (place at : ℕ) → at ≡ saturated (place + 16)
      → IsBodyFault books book None place (codes "{\"pageCount\":1.5") (Syntax at)
  cut_behind_a_number place at e = (
    up_to_pages,
    16,
    e,
    record {
      no_text = no_text (codes "{\"pageCount\":1.5") refl;
      front = record {
        within = omega arith;
        begins = (codes "}", pages_whole.0, (_, pages_whole.1));
        longest = λ less. absurd (omega (arith, less));
      };
      tokens = pages_tokens;
    },
    pages_without_fault,
  )

  -- nor does it end before a letter, with which no text goes on
  pub letter_behind_a_number : (place at : ℕ) → at ≡ saturated (place + 16)
      → IsFrontFault books book None place (codes "{\"pageCount\":1.5x") (Syntax at)
  letter_behind_a_number place at e =
      let bytes = codes "{\"pageCount\":1.5x" in (
        up_to_pages,
        16,
        e,
        omega arith,
        record {
          no_text = no_text bytes refl;
          front = record {
            within = omega arith;
            begins = (codes "}", pages_whole.0, (_, pages_whole.1));
            longest = λ less x. no_tokens x.2.0 ((laws.told.completes (bytes ++ x.0) x.2.0).0 (x.1, x.2.1));
          };
          tokens = pages_tokens;
        },
        pages_without_fault,
      )

  -- of `{"pageCount":1.5 ` it has, and is no integer, whatever follows
  pub blank_shown_behind_a_number : (place at : ℕ) → at ≡ saturated (place + 13)
      → IsFrontFault books book None place (codes "{\"pageCount\":1.5 ") (Field at BadNumber)
  blank_shown_behind_a_number place at e = (
    up_to_pages ++ with_token (digits (codes "1.5")) 13 16 [],
    ended (codes "{\"pageCount\":1.5 ") (codes "}") (up_to_pages ++ with_token (digits (codes "1.5")) 13 16 [])
        (with_token (closes Object) 17 18 []) 17 (omega arith) refl
        (λ h. omega (arith, h), (λ h. omega (arith, h), (λ h. omega (arith, h), tt))),
    record {
      before = up_to_pages;
      token = record { mark = digits (codes "1.5"); from = 13; to = 16 };
      behind = [];
      split = refl;
      first = (omega arith, (one_pair (codes "pageCount") (number (codes "1.5")), _, refl, refl));
      at_is = e;
    },
  )

  pub blank_behind_a_number : (place at : ℕ) → at ≡ saturated (place + 13)
      → IsBodyFault books book None place (codes "{\"pageCount\":1.5 ") (Field at BadNumber)
  blank_behind_a_number place at e =
      front_is_whole books book None place (codes "{\"pageCount\":1.5 ") (Field at BadNumber)
      (blank_shown_behind_a_number place at e)

  -- `{"lent":true}x` goes on behind a text
  pub shown_behind_a_text : (place at : ℕ) → at ≡ saturated (place + 13)
      → IsFrontFault books book None place (codes "{\"lent\":true}x") (Syntax at)
  shown_behind_a_text place at e =
      let bytes = codes "{\"lent\":true}x" in
      let all =
      with_token (opens Object) 0 1 (with_token (key (codes "lent")) 1 7
      (with_token (name names.True) 8 12 (with_token (closes Object) 12 13 []))) in
      let whole = text_of (codes "{\"lent\":true}") all refl in (
        all,
        13,
        e,
        omega arith,
        record {
          no_text = no_text bytes refl;
          front = record {
            within = omega arith;
            begins = ([], whole.0, (_, whole.1));
            longest = λ less x. no_tokens x.2.0 ((laws.told.completes (bytes ++ x.0) x.2.0).0 (x.1, x.2.1));
          };
          tokens = are_tokens (codes "{\"lent\":true}") [] all [] whole.0
              (ended (codes "{\"lent\":true}") [] all [] 13 (omega arith) refl
              (λ h. omega (arith, h), (λ h. omega (arith, h), (λ h. omega (arith, h), (λ h. omega (arith, h), tt)))))
              whole.1 tt;
        },
        λ f h.
            (laws.readings books book None).begins_none (marks_of all) f h
            (one_pair (codes "lent") (literal names.True), _, _, refl, refl),
      )

  pub behind_a_text : (place at : ℕ) → at ≡ saturated (place + 13)
      → IsBodyFault books book None place (codes "{\"lent\":true}x") (Syntax at)
  behind_a_text place at e =
      front_is_whole books book None place (codes "{\"lent\":true}x") (Syntax at) (shown_behind_a_text place at e)

  -- what shows no fault, where bytes whose ended tokens have none do not
  module _ (sound : (c : Schema) (id : TypeId) (n : Option ℕ) (place : ℕ) (bytes : List ℕ) (ts : List Span)
      → AreTokensOf bytes ts → HasNoFault c id n ts → ShowsNoFault c id n place bytes) (place : ℕ) where
    -- no byte
    pub nothing_shown : ShowsNoFault books book None place []
    nothing_shown = sound books book None place [] [] no_token nothing_without_fault

    -- a number that may go on
    pub no_number_shown : ShowsNoFault books book None place (codes "{\"pageCount\":1.5")
    no_number_shown =
        sound books book None place (codes "{\"pageCount\":1.5") up_to_pages pages_tokens pages_without_fault
