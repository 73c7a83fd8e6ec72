-- What has been taken of a body's bytes, call by call (`read_body`).
use Rattle.std.proofs.Common.{◌≡◌, ◌∙◌, ◌≤◌, ◌+◌, arith, sym, ap, subst, refl, append-nil, append_assoc, ℕ, List, [], ◌∷◌, ◌++◌, length, take, drop, ◌-◌, Option, Some, None, Ok, Err}
use Rattle.std.specs.Option.{IfSome}
use Rattle.std.proofs.Math.Seq.{take-length}
use Rattle.std.proofs.lemmas.List.{length-drop, take-append-drop}
use Rattle.base.specs.Saturated.{saturated}
use Rattle.json_events.specs.JsonText.{BeginsText, IsTextOf, IsTextWith, Span, marks_of}
use Rattle.json_events.specs.JsonTokens.{AreTokensOf, BeginsWith, HaveEndedIn, level}
use Rattle.json_events.specs.JsonTree.{Json, Mark}
use Rattle.json_events.specs.ReaderAnswers.{FeedsOn, IsFeedFault, IsGiven, IsNotWhole, IsWholeWith, mark_seen}
use Rattle.json_events.specs.ReaderState.{IsBroken, IsFaultOf, ReaderState, Stands}
use Rattle.json_events.specs.declared.fault.JsonFault.{JsonFault}
use Rattle.json_events.specs.declared.fault.JsonFault.TheVariants as faults
use Rattle.json_events.specs.declared.token.Fed.{Fed}
use Rattle.json_events.specs.declared.token.Spanned.{Spanned}
use Rattle.json_meanings.specs.FieldFaults.{BeginsTree, tree_tokens}
use Rattle.json_meanings.specs.JsonScalars.{Schema}
use Rattle.json_meanings.specs.declared.fault.FieldKind.{FieldKind}
use Rattle.json_meanings.specs.TokenNesting.{nesting_limit}
use Rattle.message_types.specs.declared.messages.TypeId.{TypeId}
use Rattle.json_bodies.specs.BodySteps.{HasTaken, HasTakenAll, IsBodyRefusal, IsFrontRefusal, of_text, of_token}
use Rattle.protojson_read.specs.BuilderReads.{IsTokenFault, Reads}
use Rattle.json_bodies.specs.WholeMessages.{AreBodyTokens, HasNoFault, IsBodyReading, IsFaultAt}
use Rattle.protojson_read.specs.declared.builder.Builder.{Builder}
use Rattle.json_bodies.specs.declared.fault.BodyFault.{BodyFault}
use Rattle.json_bodies.specs.declared.fault.BodyFault.TheVariants as bodies
use Rattle.protojson_read.specs.declared.fault.FieldFault.{FieldFault}
use Rattle.protojson_read.specs.declared.fault.FieldFault.TheVariants as fields
use Rattle.json_bodies.proofs.BodyLemmas.{marks_of-append, length-marks_of}

-- before the first byte
pub taken_nothing : (r : ReaderState) (b : Builder) (c : Schema) (id : TypeId) (n : Option ℕ) (place : ℕ)
    (bytes : List ℕ) → r.fault ≡ None → Stands r [] [] → BeginsWith [] [] → Reads b c id n place []
    → HasTaken r b c id n place bytes []
taken_nothing r b c id n place bytes fresh stands begins reads = record {
  tokens = [];
  stands = stands;
  ended = record { count = 0; within = omega arith; begins = begins; ended = tt };
  fresh = fresh;
  reads = reads;
}

-- the marks of tokens and one more
marks_with : (ts : List Span) (span : Span) (m : Mark) → span.mark ≡ m
    → marks_of ts ++ m ∷ [] ≡ marks_of (ts ++ span ∷ [])
marks_with ts span m e = ap (λ (k : Mark). marks_of ts ++ k ∷ []) (sym e) ∙ sym (marks_of-append ts (span ∷ []))

-- a token that a call of the reader gave behind others
pub record Next (new : ReaderState) (bytes taken : List ℕ) (ts : List Span) (token : Spanned) : Type 0 where
  pub span : Span
  pub mark : span.mark ≡ mark_seen token.token
  pub from : token.from ≡ saturated span.from
  pub stands : Stands new taken (ts ++ span ∷ [])
  pub ended : HaveEndedIn bytes (ts ++ span ∷ [])

-- one that `feed` gave
pub next_given : (old new : ReaderState) (b : Builder) (c : Schema) (id : TypeId) (n : Option ℕ) (place : ℕ)
    (bytes taken rest : List ℕ) (fed : Fed) (token : Spanned) (h : HasTaken old b c id n place bytes taken)
    → taken ++ rest ≡ bytes → fed.token ≡ Some token → FeedsOn old new rest (Ok fed)
    → Next new bytes (taken ++ take fed.taken rest) h.tokens token
next_given old new b c id n place bytes taken rest fed token h split given on =
    let g = on taken h.tokens h.stands in
    let some : IsGiven (Some token) g.0 (length (taken ++ take fed.taken rest))
    = subst (λ (o : Option Spanned). IsGiven o g.0 (length (taken ++ take fed.taken rest))) given g.1 in
    let ended : HaveEndedIn (taken ++ rest) (h.tokens ++ g.0)
    = subst (λ (o : Option Spanned). IfSome o (λ _. HaveEndedIn (taken ++ rest) (h.tokens ++ g.0))) given g.3 in
    record {
      span = some.0;
      mark = some.2.mark;
      from = some.2.from;
      stands = subst (λ (l : List Span). Stands new (taken ++ take fed.taken rest) (h.tokens ++ l)) some.1 g.2;
      ended = subst (λ (l : List ℕ). HaveEndedIn l (h.tokens ++ some.0 ∷ [])) split
          (subst (λ (l : List Span). HaveEndedIn (taken ++ rest) (h.tokens ++ l)) some.1 ended);
    }

-- the builder took it
pub taken_next : (new : ReaderState) (b : Builder) (c : Schema) (id : TypeId) (n : Option ℕ) (place : ℕ)
    (bytes taken : List ℕ) (ts : List Span) (token : Spanned) → Next new bytes taken ts token → new.fault ≡ None
    → Reads b c id n place (marks_of ts ++ mark_seen token.token ∷ []) → HasTaken new b c id n place bytes taken
taken_next new b c id n place bytes taken ts token x fresh reads = record {
  tokens = ts ++ x.span ∷ [];
  stands = x.stands;
  ended = x.ended;
  fresh = fresh;
  reads = subst (Reads b c id n place) (marks_with ts x.span (mark_seen token.token) x.mark) reads;
}

-- the tokens up to a given one begin those of a tree
pub next_begins : (begins : (bytes : List ℕ) (ts : List Span) → BeginsWith bytes ts → BeginsTree (marks_of ts))
    (new : ReaderState) (bytes taken : List ℕ) (ts : List Span) (token : Spanned) → Next new bytes taken ts token
    → BeginsTree (marks_of ts ++ mark_seen token.token ∷ [])
next_begins begins new bytes taken ts token x =
    subst BeginsTree (sym (marks_with ts x.span (mark_seen token.token) x.mark))
    (begins (take x.ended.count bytes) (ts ++ x.span ∷ []) x.ended.begins)

-- a place and an offset, added in 64 bits
twice : (place a b : ℕ) → b ≡ saturated a → saturated (place + b) ≡ saturated (place + a)
twice place a b e = omega (arith, e)

-- the builder refused the last of the tokens
fault_of_token : (c : Schema) (id : TypeId) (n : Option ℕ) (place : ℕ) (ts : List Span) (span : Span)
    (token : Spanned) (p : ℕ) (k : FieldKind) → span.mark ≡ mark_seen token.token → token.from ≡ saturated span.from
    → IsTokenFault (fields.At p k) (saturated (place + token.from)) c id n (marks_of ts) (mark_seen token.token)
    → IsFaultAt c id n place (ts ++ span ∷ []) p k
fault_of_token c id n place ts span token p k mark from h = record {
  before = ts;
  token = span;
  behind = [];
  split = refl;
  first = rw (sym (length-marks_of ts), sym (marks_with ts span (mark_seen token.token) mark)) h.1;
  at_is = h.0 ∙ twice place span.from token.from from;
}

-- one that has ended in the bytes
pub refused_front_token : (c : Schema) (id : TypeId) (n : Option ℕ) (place : ℕ) (bytes : List ℕ) (ts : List Span)
    (span : Span) (token : Spanned) (f : FieldFault) → span.mark ≡ mark_seen token.token
    → token.from ≡ saturated span.from → HaveEndedIn bytes (ts ++ span ∷ [])
    → IsTokenFault f (saturated (place + token.from)) c id n (marks_of ts) (mark_seen token.token)
    → IsFrontRefusal c id n place bytes (of_token f)
refused_front_token c id n place bytes ts span token fields.NoMemory mark from ended h = tt
refused_front_token c id n place bytes ts span token (fields.At p k) mark from ended h =
    (ts ++ span ∷ [], ended, fault_of_token c id n place ts span token p k mark from h)

-- one of a body
pub refused_token : (c : Schema) (id : TypeId) (n : Option ℕ) (place : ℕ) (bytes : List ℕ) (ts : List Span)
    (span : Span) (token : Spanned) (f : FieldFault) → span.mark ≡ mark_seen token.token
    → token.from ≡ saturated span.from → AreBodyTokens bytes (ts ++ span ∷ [])
    → IsTokenFault f (saturated (place + token.from)) c id n (marks_of ts) (mark_seen token.token)
    → IsBodyRefusal c id n place bytes (of_token f)
refused_token c id n place bytes ts span token fields.NoMemory mark from are h = tt
refused_token c id n place bytes ts span token (fields.At p k) mark from are h =
    (ts ++ span ∷ [], are, fault_of_token c id n place ts span token p k mark from h)

-- the reader took the last bytes, which end no token
pub taken_all : (old new : ReaderState) (b : Builder) (c : Schema) (id : TypeId) (n : Option ℕ) (place : ℕ)
    (bytes taken rest : List ℕ) (fed : Fed) → taken ++ rest ≡ bytes → fed.token ≡ None → fed.taken ≡ length rest
    → HasTaken old b c id n place bytes taken → FeedsOn old new rest (Ok fed) → new.fault ≡ None
    → HasTaken new b c id n place bytes bytes
taken_all old new b c id n place bytes taken rest fed split none count h on fresh =
    let g = on taken h.tokens h.stands in
    let nothing : g.0 ≡ []
    = subst (λ (o : Option Spanned). IsGiven o g.0 (length (taken ++ take fed.taken rest))) none g.1 in
    let same : taken ++ take fed.taken rest ≡ bytes
    = ap (λ k. taken ++ take k rest) count ∙ ap (λ (l : List ℕ). taken ++ l) (take-length rest) ∙ split in
    let tokens : h.tokens ++ g.0 ≡ h.tokens = ap (λ (l : List Span). h.tokens ++ l) nothing ∙ append-nil h.tokens in
    record {
      tokens = h.tokens;
      stands = subst (λ (l : List ℕ). Stands new l h.tokens) same
          (subst (Stands new (taken ++ take fed.taken rest)) tokens g.2);
      ended = h.ended;
      fresh = fresh;
      reads = h.reads;
    }

-- what begins a text with tokens begins one
pub begins_text : (bytes : List ℕ) (ts : List Span) → BeginsWith bytes ts → BeginsText bytes
begins_text bytes ts h = (h.0, h.2, (ts ++ h.1, h.3))

-- a text begins one
pub text_begins : (bytes : List ℕ) (j : Json) → IsTextOf j bytes → BeginsText bytes
text_begins bytes j x = ([], j, (x.0, subst (λ (l : List ℕ). IsTextWith j l x.0) (sym (append-nil bytes)) x.1))

-- the reader refused the bytes: no text goes on so
pub refused_bytes : (shorter : (bytes : List ℕ) (k m : ℕ) → k ≤ m → BeginsText (take m bytes)
    → BeginsText (take k bytes))
    (longest : (bytes : List ℕ) (ts : List Span) (k : ℕ) → IsBroken bytes ts k → HaveEndedIn bytes ts
    → AreTokensOf (take k bytes) ts × (BeginsText (take (k + 1) bytes) → ⊥))
    (old : ReaderState) (b : Builder) (c : Schema) (id : TypeId) (n : Option ℕ) (place : ℕ)
    (bytes taken rest : List ℕ) (f : JsonFault) → taken ++ rest ≡ bytes
    → (h : HasTaken old b c id n place bytes taken) → HasNoFault c id n h.tokens → level h.tokens ≤ nesting_limit
    → (old.fault ≡ None → IsFeedFault f old rest) → IsFrontRefusal c id n place bytes (of_text place f)
refused_bytes shorter longest old b c id n place bytes taken rest f split h none few faulty =
    by_fault f (subst (λ (l : List ℕ). IsFaultOf f l h.tokens) split (faulty h.fresh taken h.tokens h.stands))
  where
    by_fault : (f : JsonFault) → IsFaultOf f bytes h.tokens → IsFrontRefusal c id n place bytes (of_text place f)
    by_fault faults.NoMemory x = tt
    by_fault (faults.TooDeep p) x =
        absurd (omega (arith, few, x.2.full))
    by_fault (faults.Syntax p) x =
        let k = x.0 in
        let broken = x.2 in
        let front = longest bytes h.tokens k broken h.ended in (
          h.tokens,
          k,
          twice place k p x.1,
          broken.within,
          record {
            no_text = λ j text. front.1 (shorter bytes (k + 1) (length bytes) (omega (arith, broken.within))
                (subst BeginsText (sym (take-length bytes)) (text_begins bytes j text)));
            front = record {
              within = omega (arith, broken.within);
              begins = begins_text (take k bytes) h.tokens front.0.begins;
              longest = λ _. front.1;
            };
            tokens = front.0;
          },
          none,
        )

-- the bytes end, and are no text
pub refused_end : (tokens : (r : ReaderState) (b : List ℕ) (ts : List Span) → r.fault ≡ None → Stands r b ts
    → HaveEndedIn b ts → AreTokensOf b ts)
    (more : (j : Json) (b : List ℕ) (ts all : List Span) → AreTokensOf b ts → IsTextWith j b all
    → (rest : List Span) × (all ≡ ts ++ rest))
    (old : ReaderState) (b : Builder) (c : Schema) (id : TypeId) (n : Option ℕ) (place : ℕ) (bytes : List ℕ)
    (f : JsonFault) (h : HasTaken old b c id n place bytes bytes) → HasNoFault c id n h.tokens
    → (old.fault ≡ None → IsNotWhole (Stands old) f)
    → IsBodyRefusal c id n place bytes (of_text place f)
refused_end tokens more old b c id n place bytes f h none cut =
    let x = cut h.fresh bytes h.tokens h.stands in
    let are = tokens old bytes h.tokens h.fresh h.stands h.ended in
    let all = take-length bytes in
    let are_first : AreTokensOf (take (length bytes) bytes) h.tokens
    = subst (λ (l : List ℕ). AreTokensOf l h.tokens) (sym all) are in
    subst (λ (g : JsonFault). IsBodyRefusal c id n place bytes (of_text place g)) (sym x.0) (
      h.tokens,
      length bytes,
      twice place (length bytes) (saturated (length bytes)) refl,
      record {
        no_text = λ j text.
            let s = more j bytes h.tokens text.0 are text.1 in
            x.1.dead j s.0 (subst (λ (l : List ℕ). IsTextWith j l (h.tokens ++ s.0)) (sym all)
            (subst (IsTextWith j bytes) s.1 text.1));
        front = record {
          within = omega arith;
          begins = begins_text (take (length bytes) bytes) h.tokens are_first.begins;
          longest = λ less. absurd (omega (arith, less));
        };
        tokens = are_first;
      },
      none,
    )

-- the bytes end, and are a text, whose tokens end with them
pub end_none : (marks : (j : Json) (s : List ℕ) (ts : List Span) → IsTextWith j s ts → marks_of ts ≡ tree_tokens j)
    (old : ReaderState) (b : Builder) (c : Schema) (id : TypeId) (n : Option ℕ) (place : ℕ) (bytes : List ℕ)
    → HasTaken old b c id n place bytes bytes → IsWholeWith (Stands old) None → HasTakenAll b c id n place bytes
end_none marks old b c id n place bytes h whole =
    let w = whole bytes h.tokens h.stands in
    let tokens : h.tokens ++ w.0 ≡ h.tokens = ap (λ (l : List Span). h.tokens ++ l) w.1 ∙ append-nil h.tokens in
    let text : IsTextWith w.2 bytes h.tokens = subst (IsTextWith w.2 bytes) tokens w.3 in
    record {
      tree = w.2;
      text = (h.tokens, text);
      reads = subst (Reads b c id n place) (marks w.2 bytes h.tokens text) h.reads;
    }

-- a number that ends with the text
pub record Last (bytes : List ℕ) (ts : List Span) (token : Spanned) : Type 0 where
  pub span : Span
  pub mark : span.mark ≡ mark_seen token.token
  pub from : token.from ≡ saturated span.from
  pub tree : Json
  pub text : IsTextWith tree bytes (ts ++ span ∷ [])

-- one that `finish` gave
pub last_given : (old : ReaderState) (b : Builder) (c : Schema) (id : TypeId) (n : Option ℕ) (place : ℕ)
    (bytes : List ℕ) (token : Spanned) (h : HasTaken old b c id n place bytes bytes)
    → IsWholeWith (Stands old) (Some token) → Last bytes h.tokens token
last_given old b c id n place bytes token h whole =
    let w = whole bytes h.tokens h.stands in
    record {
      span = w.1.0;
      mark = w.1.2.mark;
      from = w.1.2.from;
      tree = w.2;
      text = subst (λ (l : List Span). IsTextWith w.2 bytes (h.tokens ++ l)) w.1.1 w.3;
    }

-- the tokens up to it are those of the tree
last_tokens : (marks : (j : Json) (s : List ℕ) (ts : List Span) → IsTextWith j s ts → marks_of ts ≡ tree_tokens j)
    (bytes : List ℕ) (ts : List Span) (token : Spanned) (x : Last bytes ts token)
    → marks_of ts ++ mark_seen token.token ∷ [] ≡ tree_tokens x.tree
last_tokens marks bytes ts token x =
    marks_with ts x.span (mark_seen token.token) x.mark ∙ marks x.tree bytes (ts ++ x.span ∷ []) x.text

-- and begin a tree's
pub last_begins : (marks : (j : Json) (s : List ℕ) (ts : List Span) → IsTextWith j s ts → marks_of ts ≡ tree_tokens j)
    (bytes : List ℕ) (ts : List Span) (token : Spanned) → Last bytes ts token
    → BeginsTree (marks_of ts ++ mark_seen token.token ∷ [])
last_begins marks bytes ts token x =
    let all = last_tokens marks bytes ts token x in
    (x.tree, [], sym all ∙ sym (append-nil (marks_of ts ++ mark_seen token.token ∷ [])))

-- the builder took it
pub end_last : (marks : (j : Json) (s : List ℕ) (ts : List Span) → IsTextWith j s ts → marks_of ts ≡ tree_tokens j)
    (b : Builder) (c : Schema) (id : TypeId) (n : Option ℕ) (place : ℕ) (bytes : List ℕ) (ts : List Span)
    (token : Spanned) → Last bytes ts token → Reads b c id n place (marks_of ts ++ mark_seen token.token ∷ [])
    → HasTakenAll b c id n place bytes
end_last marks b c id n place bytes ts token x reads = record {
  tree = x.tree;
  text = (ts ++ x.span ∷ [], x.text);
  reads = subst (Reads b c id n place) (last_tokens marks bytes ts token x) reads;
}

-- what is left of bytes
pub left_over : (taken rest bytes : List ℕ) (k : ℕ) → taken ++ rest ≡ bytes
    → (taken ++ take k rest) ++ take (length rest - k) (drop k rest) ≡ bytes
left_over taken rest bytes k e =
    let all : take (length rest - k) (drop k rest) ≡ drop k rest
    = ap (λ m. take m (drop k rest)) (sym (length-drop k rest)) ∙ take-length (drop k rest) in
    ap (λ (l : List ℕ). (taken ++ take k rest) ++ l) all
    ∙ append_assoc taken (take k rest) (drop k rest)
    ∙ ap (λ (l : List ℕ). taken ++ l) (take-append-drop k rest) ∙ e

-- a refusal of bytes is what is read of them
pub refused_reading : (c : Schema) (id : TypeId) (n : Option ℕ) (place : ℕ) (bytes : List ℕ) (f : BodyFault)
    → IsBodyRefusal c id n place bytes f → IsBodyReading c id n place bytes (Err f)
refused_reading c id n place bytes bodies.NoMemory h = tt
refused_reading c id n place bytes (bodies.Field p k) h = h
refused_reading c id n place bytes (bodies.Syntax p) h = h
