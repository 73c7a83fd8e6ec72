-- The tokens that have ended in the bytes at the front of a text, and the fronts that begin one.
use Rattle.std.proofs.Common.{◌≡◌, ℕ, suc, ◌+◌, ◌<◌, ◌≤◌, List, [], ◌∷◌, ◌++◌, length, get_or, take, Option, Some, None, refl, sym, ap, ◌∙◌, subst, arith, append_assoc}
use Rattle.std.specs.Prelude.{option_map}
use Rattle.std.specs.List.{AllByRecursion}
use Rattle.std.proofs.lemmas.List.{length-take-le, take_more}
use Rattle.json_events.specs.declared.state.Want.TheVariants as want
use Rattle.json_events.specs.JsonTree.{Json}
use Rattle.json_events.specs.JsonText.{Span, IsTextWith, IsTextOf, BeginsText}
use Rattle.json_events.specs.ReadingSteps.{Config, out, reads}
use Rattle.json_events.specs.JsonTokens.{BeginsWith, HasNotEnded, HasEnded, IsWithin, level, level_limit, IsValid}
use Rattle.json_events.specs.ReaderState.{ReaderState, Stands, IsBroken}
use Rattle.json_events.proofs.texts.TokenLemmas.{map_given, text_of_reads}
use Rattle.json_events.proofs.texts.TokenRuns.{reads_of_text}
use Rattle.json_events.proofs.machine.StepLemmas.{valid_out}
use Rattle.json_events.proofs.machine.CompletionLemmas.{completes_from}
use Rattle.json_events.proofs.machine.CountLemmas.{CountsAt, out_counts}
use Rattle.json_events.proofs.machine.EndedLemmas.{AllLate, reads_late, late}
use Rattle.json_events.proofs.machine.GivenLemmas.{AllEnded, ended_later, out_ended}
use Rattle.base.proofs.EachLemmas.{each_joined}
use Rattle.json_events.proofs.reading.StandLemmas.{seen, awaits_seen, stands_alive}
use Rattle.json_events.proofs.reading.CallLemmas.{stands_for}

one_more : (n k : ℕ) → n + 1 + k ≡ n + suc k
one_more n k = omega arith

-- bytes give these tokens, whatever follows, which have ended in them, and all others end behind them
pub record Front (p : List ℕ) (c : Config) : Type 0 where
  pub given : List Span
  pub ended : AllEnded (c.at + length p) given
  pub others : (s : List ℕ) (all : List Span) → reads (Some c) (p ++ s) ≡ Some all → (rest : List Span) × (all ≡ given ++ rest) × AllLate (c.at + length p) rest

empty_front : (c : Config) → IsValid (Some c) → Front [] c
empty_front c v = record {
  given = [];
  ended = tt;
  others = λ s all h. (all, refl, subst (λ n. AllLate n all) (omega arith) (reads_late s c all v h));
}

front : (p : List ℕ) (c : Config) → IsValid (Some c) → Front p c
front [] c v = empty_front c v
front (b ∷ p) c v = by_next (λ d. front p d) (out c b).next refl (valid_out c.word c.place c.from c.at b v) _ (out_counts c.word c.place c.from c.at b v)
  where
    by_next : ((d : Config) → IsValid (Some d) → Front p d) → (n : Option Config) → (out c b).next ≡ n → IsValid n → (k : ℕ) → CountsAt n (c.at + 1) k → Front (b ∷ p) c
    by_next ih None e x k y = record {
      given = [];
      ended = tt;
      others = λ s all h. let none : reads (Some c) (b ∷ (p ++ s)) ≡ None = ap (λ n. option_map (λ l. (out c b).given ++ l) (reads n (p ++ s))) e in absurd (cc (h, none));
    }
    by_next ih (Some d) e x k y =
        let far : d.at + length p ≡ c.at + length (b ∷ p) = ap (λ n. n + length p) y.0 ∙ one_more c.at (length p) in
        let here : c.at + 1 ≤ c.at + length (b ∷ p) = omega arith in
        record {
          given = (out c b).given ++ (ih d x).given;
          ended = each_joined (HasEnded (c.at + length (b ∷ p))) (out c b).given (ih d x).given
              (ended_later (out c b).given (c.at + 1) (c.at + length (b ∷ p)) here (out_ended c.word c.place c.from c.at b))
              (subst (λ n. AllEnded n (ih d x).given) far (ih d x).ended);
          others = λ s all h.
              let r = map_given (out c b).given (reads (out c b).next (p ++ s)) all h in
              let i = (ih d x).others s r.0 (ap (λ n. reads n (p ++ s)) (sym e) ∙ r.1) in
              (i.0, r.2 ∙ ap (λ l. (out c b).given ++ l) i.1 ∙ sym (append_assoc (out c b).given (ih d x).given i.0), subst (λ n. AllLate n i.0) far i.2);
        }

-- two lists of which one half has ended and the other has not
pub ended_first : (n : ℕ) (ts g others rest : List Span) → ts ++ others ≡ g ++ rest → AllByRecursion (HasEnded n) ts → AllLate n rest → (more : List Span) × (g ≡ ts ++ more)
ended_first n [] g others rest e h l = (g, refl)
ended_first n (t ∷ ts) [] others [] e h l = absurd (cc (e))
ended_first n (t ∷ ts) [] others (r ∷ rest) e h l = let same : r ≡ t = cc (e) in absurd (h.0 (subst (HasNotEnded n) same l.0))
ended_first n (t ∷ ts) (u ∷ g) others rest e h l =
    let tail : ts ++ others ≡ g ++ rest = cc (e) in
    let same : u ≡ t = cc (e) in
    let r = ended_first n ts g others rest tail h.1 l in
    (r.0, ap (λ x. x ∷ g) same ∙ ap (λ l. t ∷ l) r.1)

-- the front at the start
pub begin_front : (p : List ℕ) → Front p (record { word = None; place = record { want = want.Value; around = [] }; from = 0; at = 0 })
begin_front p = front p (record { word = None; place = record { want = want.Value; around = [] }; from = 0; at = 0 }) tt

-- the tokens that have ended in a front are those of each text that begins with it
pub ended_are_same : (p s t : List ℕ) (j k : Json) (ts others all : List Span) → IsTextWith j (p ++ s) (ts ++ others) → AllByRecursion (HasEnded (length p)) ts → IsTextWith k (p ++ t) all → (rest : List Span) × (all ≡ ts ++ rest)
ended_are_same p s t j k ts others all x h y =
    let f = begin_front p in
    let a = f.others s (ts ++ others) (reads_of_text j (p ++ s) (ts ++ others) x) in
    let b = f.others t all (reads_of_text k (p ++ t) all y) in
    let zero_more : 0 + length p ≡ length p = omega arith in
    let e = ended_first (length p) ts f.given others a.0 a.1 h (subst (λ n. AllLate n a.0) zero_more a.2) in
    (e.0 ++ b.0, b.1 ∙ ap (λ l. l ++ b.0) e.1 ∙ append_assoc ts e.0 b.0)

-- a front of what begins a text begins one
pub front_begins : (p s : List ℕ) → BeginsText (p ++ s) → BeginsText p
front_begins p s h = (s ++ h.0, h.1, subst (λ (l : List ℕ). IsTextOf h.1 l) (append_assoc p s h.0) h.2)

-- behind the configuration these bytes begin what completes it
abbrev BeginsFrom : Config → List ℕ → Type 0
BeginsFrom c p = (s : List ℕ) × (ts : List Span) × (reads (Some c) (p ++ s) ≡ Some ts)

-- so do they behind a byte
behind_byte : (c d : Config) (b : ℕ) (p : List ℕ) → (out c b).next ≡ Some d → BeginsFrom d p → BeginsFrom c (b ∷ p)
behind_byte c d b p e h =
    let given = (out c b).given in
    let all : reads (Some c) (b ∷ (p ++ h.0)) ≡ Some (given ++ h.1) =
    ap (λ n. option_map (λ l. given ++ l) (reads n (p ++ h.0))) e ∙ ap (option_map (λ l. given ++ l)) h.2 in
    (h.0, given ++ h.1, all)

-- and without it
without_byte : (c d : Config) (b : ℕ) (p : List ℕ) → (out c b).next ≡ Some d → BeginsFrom c (b ∷ p) → BeginsFrom d p
without_byte c d b p e h =
    let r = map_given (out c b).given (reads (out c b).next (p ++ h.0)) h.1 h.2 in
    (h.0, r.0, ap (λ n. reads n (p ++ h.0)) (sym e) ∙ r.1)

-- the longest front of bytes that begins what completes a configuration
pub record Longest (c : Config) (bytes : List ℕ) : Type 0 where
  pub count : ℕ
  pub within : count ≤ length bytes
  pub alive : BeginsFrom c (take count bytes)
  pub dead : count < length bytes → BeginsFrom c (take (suc count) bytes) → ⊥

longest : (bytes : List ℕ) (c : Config) → IsValid (Some c) → Longest c bytes
longest [] c v = record {
  count = 0;
  within = omega arith;
  alive = completes_from c.word c.place c.from c.at v;
  dead = λ l h. absurd (omega (arith, l));
}
longest (b ∷ bytes) c v =
    by_next (λ d. longest bytes d) (out c b).next refl (valid_out c.word c.place c.from c.at b v)
  where
    by_next : ((d : Config) → IsValid (Some d) → Longest d bytes) → (n : Option Config) → (out c b).next ≡ n → IsValid n
        → Longest c (b ∷ bytes)
    by_next ih None e x = record {
      count = 0;
      within = omega arith;
      alive = completes_from c.word c.place c.from c.at v;
      dead = λ l h.
          let none : reads (Some c) (b ∷ h.0) ≡ None =
          ap (λ n. option_map (λ l. (out c b).given ++ l) (reads n h.0)) e in
          let some : reads (Some c) (b ∷ h.0) ≡ Some h.1 = h.2 in
          absurd (cc (some, none));
    }
    by_next ih (Some d) e x =
        let r = ih d x in
        record {
          count = suc r.count;
          within = omega (arith, r.within);
          alive = behind_byte c d b (take r.count bytes) e r.alive;
          dead = λ l h. r.dead (omega (arith, l)) (without_byte c d b (take (suc r.count) bytes) e h);
        }

-- each list has a longest front that begins a text
pub has_longest_front : (bytes : List ℕ) → (n : ℕ) × (n ≤ length bytes) × BeginsText (take n bytes)
    × (n < length bytes → BeginsText (take (n + 1) bytes) → ⊥)
has_longest_front bytes =
    let begin : Config = record { word = None; place = record { want = want.Value; around = [] }; from = 0; at = 0 } in
    let l = longest bytes begin tt in
    let n = l.count in
    let next : n + 1 ≡ suc n = omega arith in
    let text = text_of_reads (take n bytes ++ l.alive.0) l.alive.1 l.alive.2 in (
      n,
      l.within,
      (l.alive.0, text.0, (l.alive.1, text.1)),
      (λ m h.
          let longer = subst (λ k. BeginsText (take k bytes)) next h in
          let read = reads_of_text longer.1 (take (suc n) bytes ++ longer.0) longer.2.0 longer.2.1 in
          l.dead m (longer.0, longer.2.0, read)),
    )

-- what a fault says, without the tokens
begins_text : (b : List ℕ) (ts : List Span) → BeginsWith b ts → BeginsText b
begins_text b ts h = (h.0, h.2, (ts ++ h.1, h.3))

-- a fault stands behind the longest front that begins a text
pub longest_front : (bytes : List ℕ) (ts : List Span) (k : ℕ) → IsBroken bytes ts k → AllByRecursion (HasEnded k) ts → BeginsText (take k bytes) × (BeginsText (take (k + 1) bytes) → ⊥)
longest_front bytes ts k h e = (
  begins_text (take k bytes) ts h.alive,
  (λ x.
      let more : take (k + 1) bytes ≡ take k bytes ++ get_or bytes k 0 ∷ [] = take_more bytes k 0 h.within in
      let long : length (take k bytes) ≡ k = length-take-le k bytes (omega (arith, h.within)) in
      let text : IsTextWith x.1 (take k bytes ++ (get_or bytes k 0 ∷ x.0)) x.2.0 = subst (λ (l : List ℕ). IsTextWith x.1 l x.2.0) (ap (λ (l : List ℕ). l ++ x.0) more ∙ append_assoc (take k bytes) (get_or bytes k 0 ∷ []) x.0) x.2.1 in
      let same = ended_are_same (take k bytes) h.alive.0 (get_or bytes k 0 ∷ x.0) h.alive.2 x.1 ts h.alive.1 x.2.0 h.alive.3 (subst (λ n. AllByRecursion (HasEnded n) ts) (sym long) e) text in
      h.dead (x.0, same.0, x.1, subst (λ l. IsTextWith x.1 (take (k + 1) bytes ++ x.0) l) same.1 x.2.1)),
)

-- what a reader stands for
pub reader_begins : (r : ReaderState) (b : List ℕ) (ts : List Span) → r.fault ≡ None → Stands r b ts → BeginsWith b ts
reader_begins r b ts e h = stands_alive r.reading b ts (stands_for r b ts e h)

-- the tokens that a reader gave end within its bytes
pub reader_given : (r : ReaderState) (b : List ℕ) (ts : List Span) → r.fault ≡ None → Stands r b ts → AllByRecursion (IsWithin (length b)) ts
reader_given r b ts e h = let s = stands_for r b ts e h in (awaits_seen r.reading b ts s).counted.2

-- no other token has ended in them
pub reader_others : (r : ReaderState) (b : List ℕ) (ts : List Span) → r.fault ≡ None → Stands r b ts → (s : List ℕ) (others : List Span) (j : Json) → IsTextWith j (b ++ s) (ts ++ others) → AllByRecursion (HasNotEnded (length b)) others
reader_others r b ts e h s others j x = let f = stands_for r b ts e h in late (seen r.reading f.start (length b)) b ts (awaits_seen r.reading b ts f) s others j x

-- at most 208 brackets are open
pub reader_level : (r : ReaderState) (b : List ℕ) (ts : List Span) → r.fault ≡ None → Stands r b ts → level ts ≤ level_limit
reader_level r b ts e h = (stands_for r b ts e h).shallow
