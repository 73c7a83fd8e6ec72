-- What a reader stands for, byte by byte.
use Rattle.std.proofs.Common.{◌≡◌, ℕ, ◌+◌, true, cond, List, [], ◌∷◌, ◌++◌, length, Some, None, refl, sym, ap, ◌∙◌, subst, arith, append_assoc}
use Rattle.std.proofs.lemmas.List.{append_cancel_left}
use Rattle.std.specs.Prelude.{option_map}
use Rattle.json_events.specs.JsonTree.{Mark, digits}
use Rattle.json_events.specs.NestingSteps.{Place}
use Rattle.json_events.specs.WordSteps.{Word, is_number, mark_of}
use Rattle.json_events.specs.JsonText.{Span, with_token, IsTextWith}
use Rattle.json_events.specs.ReadingSteps.{Config, config, leaves, gap, on_word, whole, out, reads, start}
use Rattle.json_events.specs.JsonTokens.{level_behind, level_from, level, IsWithin, IsValid, IsCounted, Awaits}
use Rattle.base.proofs.EachLemmas.{each_joined}
use Rattle.json_events.proofs.texts.WordLemmas.{number_sound}
use Rattle.json_events.proofs.texts.TokenLemmas.{map_given, reads_sound, text_of_reads, reads_out}
use Rattle.json_events.proofs.texts.TokenRuns.{goes_reads, follows, ends_word, leaves_none, reads_of_text}

-- the machine at the start awaits a whole text
pub stands_start : Awaits start [] []
stands_start = record {
  completes = λ s ts. ((λ h. reads_of_text h.0 s ts h.1), (λ h. text_of_reads s ts h));
  valid = tt;
  counted = (refl, refl, tt);
}

-- the level behind two lists
pub level_from-append : (n : ℕ) (ts us : List Span) → level_from n (ts ++ us) ≡ level_from (level_from n ts) us
level_from-append n [] us = refl
level_from-append n (t ∷ ts) us = level_from-append (level_behind t.mark n) ts us

-- the level behind two lists of tokens
pub level_append : (ts us : List Span) → level (ts ++ us) ≡ level_from (level ts) us
level_append ts us = level_from-append 0 ts us

-- the reader takes a byte
pub stands_next : (c : Config) (b : ℕ) (bytes : List ℕ) (ts : List Span) → Awaits (Some c) bytes ts → IsValid (out c b).next → IsCounted (out c b).next (bytes ++ b ∷ []) (ts ++ (out c b).given) → Awaits (out c b).next (bytes ++ b ∷ []) (ts ++ (out c b).given)
stands_next c b bytes ts h v k =
    let o = out c b in
    record {
      completes = λ s others.
          let same_bytes = append_assoc bytes (b ∷ []) s in
          let same_tokens = append_assoc ts o.given others in (
            (λ x.
                let whole : reads (Some c) (b ∷ s) ≡ Some (o.given ++ others) = (h.completes (b ∷ s) (o.given ++ others)).0 (x.0, subst (λ (l : List ℕ). IsTextWith x.0 l (ts ++ (o.given ++ others))) same_bytes (subst (IsTextWith x.0 ((bytes ++ b ∷ []) ++ s)) same_tokens x.1)) in
                let r = map_given o.given (reads o.next s) (o.given ++ others) whole in
                r.1 ∙ ap Some (sym (append_cancel_left o.given others r.0 r.2))),
            (λ x.
                let whole : reads (Some c) (b ∷ s) ≡ Some (o.given ++ others) = ap (option_map (λ l. o.given ++ l)) x in
                let r = (h.completes (b ∷ s) (o.given ++ others)).1 whole in
                (r.0, subst (λ (l : List ℕ). IsTextWith r.0 l ((ts ++ o.given) ++ others)) (sym same_bytes) (subst (IsTextWith r.0 (bytes ++ (b ∷ s))) (sym same_tokens) r.1))),
          );
      valid = v;
      counted = k;
    }

abbrev span : Mark → ℕ → ℕ → Span
span m from to = record { mark = m; from = from; to = to }

no_length : (t : List ℕ) (n : ℕ) → n ≡ n + length t → t ≡ []
no_length [] n h = refl
no_length (b ∷ t) n h = absurd (omega (arith, h))

-- the reader gives a number that has ended
pub stands_number : (w : Word) (p : Place) (from at : ℕ) (held : List ℕ) (bytes : List ℕ) (ts : List Span) → is_number w.state ≡ true → mark_of w.state w.is_key w.held ≡ Some (digits held) → Awaits (config (Some w) p from at) bytes ts → Awaits (gap p at) bytes (ts ++ with_token (digits held) from at [])
stands_number w p from at held bytes ts n e h =
    let token : Span = span (digits held) from at in
    record {
      completes = λ s others.
          let same = append_assoc ts (token ∷ []) others in (
            (λ x.
                let r = (h.completes s (token ∷ others)).0 (x.0, subst (IsTextWith x.0 (bytes ++ s)) same x.1) in
                let l = reads_sound s (config (Some w) p from at) (token ∷ others) r in
                let num = number_sound l.tail w.state w.is_key w.held l.mark n l.word in
                let tokens : token ∷ others ≡ with_token (digits (w.held ++ l.tail)) from (at + length l.tail) l.others = l.tokens ∙ ap (λ m. with_token m from (at + length l.tail) l.others) num.1 in
                let longer : span (digits (w.held ++ l.tail)) from (at + length l.tail) ≡ token = cc in
                let empty : l.tail ≡ [] = no_length l.tail at (sym (ap (λ (y : Span). y.to) longer)) in
                let rest : s ≡ l.rest = l.split ∙ ap (λ (y : List ℕ). y ++ l.rest) empty in
                let others_same : l.others ≡ others = cc in
                let here : at + length l.tail ≡ at = ap (λ (y : Span). y.to) longer in
                ap (reads (gap p at)) rest ∙ subst (λ k. reads (gap p k) l.rest ≡ Some others) here
                (subst (λ y. reads (gap p (at + length l.tail)) l.rest ≡ Some y) others_same (goes_reads l.goes.ms p (at + length l.tail) l.rest l.others l.goes.leads l.goes.spelled))),
            (λ x.
                let g = reads_sound s (gap p at) others x in
                let f = follows p g.ms at s others (h.valid.1 n) g.leads g.spelled in
                let open_word : on_word w p from at ≡ leaves (config (Some w) p from at) [] = ap (λ t. whole (cond t None (mark_of w.state w.is_key w.held)) w p from at) n in
                let all : reads (config (Some w) p from at) s ≡ Some (token ∷ others) = sym (leaves_none (config (Some w) p from at) s) ∙ ap (λ o. reads_out o s) (sym open_word) ∙ ends_word w p from at (digits held) s others e (λ _ _. f) x in
                let r = (h.completes s (token ∷ others)).1 all in
                (r.0, subst (IsTextWith r.0 (bytes ++ s)) (sym same) r.1)),
          );
      valid = tt;
      counted = (h.counted.0, h.counted.1 ∙ sym (level_append ts (token ∷ [])), each_joined (IsWithin (length bytes)) ts (token ∷ []) h.counted.2 (omega (arith, h.counted.0), tt));
    }
