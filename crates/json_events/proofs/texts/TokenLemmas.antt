-- What the machine reads is a text with these tokens.
use Rattle.std.proofs.Common.{◌≡◌, ℕ, suc, ◌+◌, Bool, true, false, cond, List, [], ◌∷◌, ◌++◌, length, Option, Some, None, refl, sym, ap, ◌∙◌, subst, arith, append_assoc}
use Rattle.std.specs.Prelude.{option_map}
use Rattle.std.proofs.lemmas.Bool.{and_from}
use Rattle.json_events.specs.declared.state.Bracket.{Bracket}
use Rattle.json_events.specs.declared.state.Want.{Want}
use Rattle.json_events.specs.declared.state.Want.TheVariants as want
use Rattle.json_events.specs.JsonTree.{Json, Mark, opens, closes, comma, colon, key, text, digits, name}
use Rattle.json_events.specs.NestingSteps.{Place, kind_of, next, Leads}
use Rattle.json_events.specs.JsonText.{is_blank, IsWord}
use Rattle.json_events.specs.WordSteps.{Word, begin, more, is_number, mark_of, kind_state, word_from}
use Rattle.json_events.specs.JsonText.{Span, with_token, Spells, IsTextWith}
use Rattle.json_events.specs.ReadingSteps.{Config, Out, leaves, gap, whole, on_word, enters, begins, wants_key, out_gap, ended, out_word, out_from, out, if_done, end_word, end_from, reads, start}
use Rattle.json_events.proofs.numbers.NumberWords.{from_choice}
use Rattle.json_events.proofs.texts.MarkLemmas.{tree_of_leads}
use Rattle.json_events.proofs.texts.WordLemmas.{begin_sound}

-- the tokens of a byte's outcome and of what follows
abbrev pub reads_out : Out → List ℕ → Option (List Span)
reads_out o s = option_map (λ ts. o.given ++ ts) (reads o.next s)

-- a tokens' list in front
pub given_token : (m : Mark) (from to : ℕ) (ts : List Span) → with_token m from to [] ++ ts ≡ with_token m from to ts
given_token (opens b) from to ts = refl
given_token (closes b) from to ts = refl
given_token comma from to ts = refl
given_token colon from to ts = refl
given_token (key s) from to ts = refl
given_token (text s) from to ts = refl
given_token (digits s) from to ts = refl
given_token (name n) from to ts = refl

-- tokens that are put before others one after another
pub map_twice : (xs ys : List Span) (o : Option (List Span)) → option_map (λ ts. (xs ++ ys) ++ ts) o ≡ option_map (λ ts. xs ++ ts) (option_map (λ ts. ys ++ ts) o)
map_twice xs ys None = refl
map_twice xs ys (Some ts) = ap Some (append_assoc xs ys ts)

-- where a text is done, and then only
pub done_with : (w : Want) (st : List Bracket) (xs ts : List Span) → if_done w st xs ≡ Some ts → (ts ≡ xs) × (w ≡ want.After) × (st ≡ [])
done_with want.Value st xs ts h = absurd (cc)
done_with want.FirstItem st xs ts h = absurd (cc)
done_with want.FirstKey st xs ts h = absurd (cc)
done_with want.Key st xs ts h = absurd (cc)
done_with want.Colon st xs ts h = absurd (cc)
done_with want.After [] xs ts h = (cc, refl, refl)
done_with want.After (b ∷ st) xs ts h = absurd (cc)

-- a whole text has come at the end
pub if_done_from : (w : Want) (st : List Bracket) (xs : List Span) → w ≡ want.After → st ≡ [] → if_done w st xs ≡ Some xs
if_done_from w st xs e f = ap (λ v. if_done v st xs) e ∙ ap (λ v. if_done want.After v xs) f

-- marks spelled from a place on, that lead to the end
pub record Goes (p : Option Place) (at : ℕ) (s : List ℕ) (ts : List Span) : Type 0 where
  pub ms : List Mark
  pub leads : Leads p ms
  pub spelled : Spells at ms s ts

-- the rest of a word, and what goes on after it
pub record Ends (w : Word) (p : Place) (from at : ℕ) (s : List ℕ) (ts : List Span) : Type 0 where
  pub tail : List ℕ
  pub rest : List ℕ
  pub mark : Mark
  pub others : List Span
  pub split : s ≡ tail ++ rest
  pub word : word_from (Some w) tail ≡ Some mark
  pub goes : Goes (Some p) (at + length tail) rest others
  pub tokens : ts ≡ with_token mark from (at + length tail) others

-- what is left in each state
abbrev pub LeftAt : Option Word → Place → ℕ → ℕ → List ℕ → List Span → Type 0
LeftAt None p from at s ts = Goes (Some p) at s ts
LeftAt (Some w) p from at s ts = Ends w p from at s ts

-- what may follow a configuration, and its tokens
abbrev pub Left : Option Config → List ℕ → List Span → Type 0
Left None s ts = ⊥
Left (Some c) s ts = LeftAt c.word c.place c.from c.at s ts

-- what may follow a step, and its tokens
abbrev pub LeftOut : Out → List ℕ → List Span → Type 0
LeftOut o s ts = (others : List Span) × (ts ≡ o.given ++ others) × Left o.next s others

-- a word that is whole, and what goes on
end_here : (w : Word) (p : Place) (from at : ℕ) (s : List ℕ) (m : Mark) (ts others : List Span) → mark_of w.state w.is_key w.held ≡ Some m → Goes (Some p) at s others → ts ≡ with_token m from at others → Ends w p from at s ts
end_here w p from at s m ts others e g t =
    let same : at ≡ at + 0 = omega arith in
    record {
      tail = [];
      rest = s;
      mark = m;
      others = others;
      split = refl;
      word = e;
      goes = subst (λ n. Goes (Some p) n s others) same g;
      tokens = t ∙ ap (λ n. with_token m from n others) same;
    }

on_word_sound : (w : Word) (p : Place) (from at : ℕ) (s : List ℕ) (ts : List Span) → LeftOut (on_word w p from at) s ts → Ends w p from at s ts
on_word_sound w p from at s ts h = by_number (is_number w.state) h
  where
    by_mark : (o : Option Mark) → mark_of w.state w.is_key w.held ≡ o → LeftOut (whole o w p from at) s ts → Ends w p from at s ts
    by_mark None e x = subst (Ends w p from at s) (sym x.1) x.2
    by_mark (Some m) e x = end_here w p from at s m ts x.0 e x.2 (x.1 ∙ given_token m from at x.0)

    by_number : (b : Bool) → LeftOut (whole (cond b None (mark_of w.state w.is_key w.held)) w p from at) s ts → Ends w p from at s ts
    by_number true x = subst (Ends w p from at s) (sym x.1) x.2
    by_number false x = by_mark (mark_of w.state w.is_key w.held) refl x

-- white space before marks
blank_before : (b : ℕ) (ms : List Mark) (at : ℕ) (s : List ℕ) (ts : List Span) → is_blank b ≡ true → Spells (at + 1) ms s ts → Spells at ms (b ∷ s) ts
blank_before b [] at s ts h x = (and_from _ _ h x.0, x.1)
blank_before b (m ∷ ms) at s ts h x =
    let same : at + 1 + length x.0 ≡ at + suc (length x.0) = omega arith in (
      b ∷ x.0,
      x.1,
      x.2,
      x.3,
      ap (λ l. b ∷ l) x.4,
      and_from _ _ h x.5,
      x.6,
      subst (λ n. Spells (n + length x.1) ms x.2 x.3) same x.7,
      x.8 ∙ ap (λ n. with_token m n (n + length x.1) x.3) same,
    )

-- a mark in front
mark_before : (p : Place) (m : Mark) (w : List ℕ) (at : ℕ) (s : List ℕ) (ts : List Span) (q : Place) → next p (kind_of m) ≡ Some q → IsWord m w → Goes (Some q) (at + length w) s ts → Goes (Some p) at (w ++ s) (with_token m at (at + length w) ts)
mark_before p m w at s ts q e h g =
    let same : at ≡ at + 0 = omega arith in
    record {
      ms = m ∷ g.ms;
      leads = subst (λ o. Leads o g.ms) (sym e) g.leads;
      spelled = ([], w, s, ts, refl, refl, h, subst (λ n. Spells (n + length w) g.ms s ts) same g.spelled, ap (λ n. with_token m n (n + length w) ts) same);
    }

begins_sound : (o : Option Word) (p : Place) (at b : ℕ) (s : List ℕ) (ts : List Span) → begin (wants_key p.want) b ≡ o → LeftOut (begins o p at) s ts → Goes (Some p) at (b ∷ s) ts
begins_sound None p at b s ts e h = absurd (h.2)
begins_sound (Some w) p at b s ts e h = by_place (next p (kind_state w.state w.is_key)) refl h
  where
    by_place : (o : Option Place) → next p (kind_state w.state w.is_key) ≡ o → LeftOut (enters w o at) s ts → Goes (Some p) at (b ∷ s) ts
    by_place None f x = absurd (x.2)
    by_place (Some q) f x =
        let r = on_word_sound w q at (at + 1) s ts x in
        let meant = begin_sound (wants_key p.want) b w r.tail r.mark r.word e in
        let same : at + 1 + length r.tail ≡ at + suc (length r.tail) = omega arith in
        let all = mark_before p r.mark (b ∷ r.tail) at r.rest r.others q (ap (next p) meant.1 ∙ f) meant.0 (subst (λ n. Goes (Some q) n r.rest r.others) same r.goes) in
        subst (λ (y : List ℕ). Goes (Some p) at y ts) (ap (λ y. b ∷ y) (sym r.split))
        (subst (Goes (Some p) at (b ∷ (r.tail ++ r.rest))) (ap (λ n. with_token r.mark at n r.others) (sym same) ∙ sym r.tokens) all)

gap_sound : (p : Place) (at b : ℕ) (s : List ℕ) (ts : List Span) → LeftOut (out_gap p at b) s ts → Goes (Some p) at (b ∷ s) ts
gap_sound p at b s ts h =
    from_choice (λ o. LeftOut o s ts) (is_blank b) (leaves (gap p (at + 1)) []) (begins (begin (wants_key p.want) b) p at)
    (λ e x. record { ms = x.2.ms; leads = x.2.leads; spelled = subst (Spells at x.2.ms (b ∷ s)) (sym x.1) (blank_before b x.2.ms at s x.0 e x.2.spelled) })
    (λ _ x. begins_sound (begin (wants_key p.want) b) p at b s ts refl x)
    h

word_sound : (o : Option Word) (w : Word) (p : Place) (from at b : ℕ) (s : List ℕ) (ts : List Span) → more w b ≡ o → LeftOut (out_word o w p from at b) s ts → Ends w p from at (b ∷ s) ts
word_sound None w p from at b s ts e h = by_mark (mark_of w.state w.is_key w.held) refl h
  where
    by_mark : (m : Option Mark) → mark_of w.state w.is_key w.held ≡ m → LeftOut (ended m p from at b) s ts → Ends w p from at (b ∷ s) ts
    by_mark None f x = absurd (x.2)
    by_mark (Some m) f x =
        let o = out_gap p at b in
        end_here w p from at (b ∷ s) m ts (o.given ++ x.0) f (gap_sound p at b s (o.given ++ x.0) (x.0, refl, x.2))
        (x.1 ∙ append_assoc (with_token m from at []) o.given x.0 ∙ given_token m from at (o.given ++ x.0))
word_sound (Some v) w p from at b s ts e h =
    let r = on_word_sound v p from (at + 1) s ts h in
    let same : at + 1 + length r.tail ≡ at + suc (length r.tail) = omega arith in
    record {
      tail = b ∷ r.tail;
      rest = r.rest;
      mark = r.mark;
      others = r.others;
      split = ap (λ l. b ∷ l) r.split;
      word = ap (λ x. word_from x r.tail) e ∙ r.word;
      goes = subst (λ n. Goes (Some p) n r.rest r.others) same r.goes;
      tokens = r.tokens ∙ ap (λ n. with_token r.mark from n r.others) same;
    }

out_sound : (w : Option Word) (p : Place) (from at b : ℕ) (s : List ℕ) (ts : List Span) → LeftOut (out_from w p from at b) s ts → LeftAt w p from at (b ∷ s) ts
out_sound None p from at b s ts h = gap_sound p at b s ts h
out_sound (Some w) p from at b s ts h = word_sound (more w b) w p from at b s ts refl h

done_sound : (p : Place) (at : ℕ) (xs ts : List Span) → if_done p.want p.around xs ≡ Some ts → Goes (Some p) at [] [] × (ts ≡ xs)
done_sound p at xs ts h =
    let d = done_with p.want p.around xs ts h in
    (record { ms = []; leads = (d.1, d.2); spelled = (refl, refl) }, d.0)

end_sound : (w : Option Word) (p : Place) (from at : ℕ) (ts : List Span) → end_from w p from at ≡ Some ts → LeftAt w p from at [] ts
end_sound None p from at ts h = let d = done_sound p at [] ts h in subst (Goes (Some p) at []) (sym d.1) d.0
end_sound (Some w) p from at ts h = by_mark (mark_of w.state w.is_key w.held) refl h
  where
    by_mark : (m : Option Mark) → mark_of w.state w.is_key w.held ≡ m → end_word m p from at ≡ Some ts → Ends w p from at [] ts
    by_mark None e x = absurd (cc)
    by_mark (Some m) e x = let d = done_sound p at (with_token m from at []) ts x in end_here w p from at [] m ts [] e d.0 d.1

-- a list in front of what a read gave
pub map_given : (xs : List Span) (o : Option (List Span)) (ts : List Span) → option_map (λ ys. xs ++ ys) o ≡ Some ts → (ys : List Span) × (o ≡ Some ys) × (ts ≡ xs ++ ys)
map_given xs None ts h = absurd (cc)
map_given xs (Some ys) ts h = (ys, refl, cc)

-- what the machine reads may follow
pub reads_sound : (s : List ℕ) (c : Option Config) (ts : List Span) → reads c s ≡ Some ts → Left c s ts
reads_sound s None ts h = absurd (cc)
reads_sound [] (Some c) ts h = end_sound c.word c.place c.from c.at ts h
reads_sound (b ∷ s) (Some c) ts h =
    let o = out c b in
    let r = map_given o.given (reads o.next s) ts h in
    out_sound c.word c.place c.from c.at b s ts (r.0, r.2, reads_sound s o.next r.0 r.1)

-- what the machine reads is a text with these tokens
pub text_of_reads : (s : List ℕ) (ts : List Span) → reads start s ≡ Some ts → (j : Json) × IsTextWith j s ts
text_of_reads s ts h =
    let g = reads_sound s start ts h in
    let t = tree_of_leads g.ms g.leads in
    (t.0, subst (λ ms. Spells 0 ms s ts) t.1 g.spelled)
