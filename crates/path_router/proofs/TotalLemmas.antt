-- Of two bindings that serve a method and fit a path, and are not one route, one precedes the other.
use Rattle.std.proofs.Common.{◌≡◌, ◌≢◌, ◌⊎◌, inl, inr, ◌++◌, ℕ, Bool, true, false, List, [], ◌∷◌, Option, Some, None, refl, sym, ap, ◌∙◌, subst, arith, lit<}
use Rattle.std.proofs.lemmas.Bool.{cases_order}
use Rattle.std.proofs.lemmas.List.{append_cancel_right}
use Rattle.std.proofs.lemmas.Slice.Eq.{bytes_eq-Decides}
use Rattle.std.specs.List.{AllByRecursion}
use Rattle.std.specs.Prelude.{IsTrue, is_some, if◌then◌else◌}
use Rattle.std.specs.Str.{bytes_eq}
use Rattle.base.proofs.EachLemmas.{each_part, each_weaker}
use Rattle.http_rules.proofs.Theorems.{literal_no_slash, segments_lawful}
use Rattle.http_rules.specs.Routes.{IsSameRoute}
use Rattle.http_rules.specs.Template.{is_literal_byte, IsLiteral, IsRestLast, IsTemplate, IsVerb, verb_text}
use Rattle.http_rules.specs.TemplateMatch.{Fits, shares, slashed}
use Rattle.http_rules.specs.declared.template.Binding.{Binding}
use Rattle.http_rules.specs.declared.template.Segment.{Segment}
use Rattle.http_rules.specs.declared.template.Segment.TheVariants.{Literal, One, Rest}
use Rattle.http_rules.specs.declared.template.Template.{Template}
use Rattle.path_router.specs.PathSegments.{TakeEach}
use Rattle.http_rules.specs.TemplateOrder.{StandBefore, verb_rank}
use Rattle.path_router.specs.RouteChoice.{Precedes, Serves, every_method, method_rank}
use Rattle.path_router.proofs.OrderLemmas.{by_front, end_first, put_front}
use Rattle.path_router.proofs.PieceLemmas.{one_cutting}
use Rattle.path_router.proofs.ShareLemmas.{all_uncut, rest_is_last, shares_taken}

-- ---- a path has one verb at its end

-- no byte is a colon
abbrev NoColon : List ℕ → Type 0
NoColon l = AllByRecursion (λ b. b ≢ 58) l

literal_no_colon : (l : List ℕ) → IsLiteral l → NoColon l
literal_no_colon [] h = absurd h
literal_no_colon (b ∷ l) h =
    each_weaker (λ c. IsTrue (is_literal_byte c)) (λ c. c ≢ 58)
    (λ c p e. let colon : is_literal_byte 58 ≡ true = subst (λ n. is_literal_byte n ≡ true) e p in absurd (cc (colon)))
    (b ∷ l) h

tail_bytes : (b c : ℕ) (x y : List ℕ) → b ∷ x ≡ c ∷ y → x ≡ y
tail_bytes b c x y e = cc (e)

behind_colon : (x v w : List ℕ) → NoColon v → v ≡ x ++ 58 ∷ w → ⊥
behind_colon x v w n e = (each_part (λ b. b ≢ 58) x (58 ∷ w) (subst NoColon e n)).1.0 refl

-- what stands before the last colon, and what behind it
last_colon : (x y v w : List ℕ) → NoColon v → NoColon w → x ++ 58 ∷ v ≡ y ++ 58 ∷ w → (x ≡ y) × (v ≡ w)
last_colon [] [] v w n m e = (refl, tail_bytes 58 58 v w e)
last_colon [] (b ∷ y) v w n m e = absurd (behind_colon y v w n (tail_bytes 58 b v (y ++ 58 ∷ w) e))
last_colon (b ∷ x) [] v w n m e = absurd (behind_colon x w v m (sym (tail_bytes b 58 (x ++ 58 ∷ v) w e)))
last_colon (b ∷ x) (c ∷ y) v w n m e =
    let r = last_colon x y v w n m (tail_bytes b c (x ++ 58 ∷ v) (y ++ 58 ∷ w) e) in
    let heads : b ≡ c = cc (e) in
    (ap (λ z. z ∷ x) heads ∙ ap (λ z. c ∷ z) r.0, r.1)

-- the place of a verb, as `verb_rank` has it
abbrev verb_place : Option (List ℕ) → ℕ
verb_place v = if is_some v then 0 else 1

-- the same texts before verbs that both are there or both are not, and the same verbs
one_verb : (x y : List ℕ) (v w : Option (List ℕ)) → IsVerb v → IsVerb w → verb_place v ≡ verb_place w
    → x ++ verb_text v ≡ y ++ verb_text w → (x ≡ y) × (v ≡ w)
one_verb x y None None a b p e = (append_cancel_right x y [] e, refl)
one_verb x y None (Some m) a b p e = absurd (omega arith)
one_verb x y (Some l) None a b p e = absurd (omega arith)
one_verb x y (Some l) (Some m) a b p e = let r = last_colon x y l m (literal_no_colon l a) (literal_no_colon m b) e in
    (r.0, ap Some r.1)

-- ---- segments that take the same pieces

-- the first is the second, stands before it, or behind it
abbrev Ordered : List Segment → List Segment → Type 0
Ordered ss ts = (ss ≡ ts) ⊎ (StandBefore ss ts ⊎ StandBefore ts ss)

put_before : (s t : Segment) (ss ts : List Segment) → s ≡ t → Ordered ss ts → Ordered (s ∷ ss) (t ∷ ts)
put_before s t ss ts e o =
    elim o [
      | inl same ↦ inl (ap (λ z. z ∷ ss) e ∙ ap (λ z. t ∷ z) same)
      | inr apart ↦ elim apart [
        | inl before ↦ inr (inl (subst (λ z. StandBefore (s ∷ ss) (z ∷ ts)) e (put_front s ss ts before)))
        | inr behind ↦ inr (inr (subst (λ z. StandBefore (z ∷ ts) (s ∷ ss)) e (put_front s ts ss behind)))
      ]
    ]

-- two lists of segments that take the same pieces are one, or one stands before the other
takers_ordered : (ss ts : List Segment) (ps : List (List ℕ)) → IsRestLast ss → IsRestLast ts → TakeEach ss ps
    → TakeEach ts ps → Ordered ss ts
takers_ordered [] [] ps q r h k = inl refl
takers_ordered [] (t ∷ ts) ps q r h k = inr (inl (by_front [] (t ∷ ts) (end_first t ts)))
takers_ordered (s ∷ ss) [] ps q r h k = inr (inr (by_front [] (s ∷ ss) (end_first s ss)))
takers_ordered (Literal l ∷ ss) (Literal m ∷ ts) [] q r h k = absurd h
takers_ordered (Literal l ∷ ss) (Literal m ∷ ts) (p ∷ ps) q r h k =
    put_before (Literal l) (Literal m) ss ts (ap Literal (sym h.0.0 ∙ k.0.0)) (takers_ordered ss ts ps q.1 r.1 h.1 k.1)
takers_ordered (Literal l ∷ ss) (One ∷ ts) ps q r h k = inr (inl (by_front (Literal l ∷ ss) (One ∷ ts) (lit< tt)))
takers_ordered (Literal l ∷ ss) (Rest ∷ ts) ps q r h k = inr (inl (by_front (Literal l ∷ ss) (Rest ∷ ts) (lit< tt)))
takers_ordered (One ∷ ss) (Literal m ∷ ts) ps q r h k = inr (inr (by_front (Literal m ∷ ts) (One ∷ ss) (lit< tt)))
takers_ordered (One ∷ ss) (One ∷ ts) [] q r h k = absurd h
takers_ordered (One ∷ ss) (One ∷ ts) (p ∷ ps) q r h k =
    put_before One One ss ts refl (takers_ordered ss ts ps q.1 r.1 h.1 k.1)
takers_ordered (One ∷ ss) (Rest ∷ ts) ps q r h k = inr (inl (by_front (One ∷ ss) (Rest ∷ ts) (lit< tt)))
takers_ordered (Rest ∷ ss) (Literal m ∷ ts) ps q r h k = inr (inr (by_front (Literal m ∷ ts) (Rest ∷ ss) (lit< tt)))
takers_ordered (Rest ∷ ss) (One ∷ ts) ps q r h k = inr (inr (by_front (One ∷ ts) (Rest ∷ ss) (lit< tt)))
takers_ordered (Rest ∷ ss) (Rest ∷ ts) ps q r h k = inl (ap (λ z. Rest ∷ z) (q.0 ∙ sym r.0))

-- ---- templates that fit one path

-- two templates that fit a path, both with a verb or both without: their verbs are equal, and their segments are
-- equal, or one stands before the other
fitting_ordered : (t u : Template) (path : List ℕ) → IsTemplate t → IsTemplate u → Fits t path → Fits u path
    → verb_rank t ≡ verb_rank u → (t.verb ≡ u.verb) × Ordered t.segments u.segments
fitting_ordered t u path it iu f g p =
    let m = f.1 in
    let n = g.1 in
    let one =
    one_verb (slashed (shares m.taken)) (slashed (shares n.taken)) t.verb u.verb it.means.verb iu.means.verb p
    (sym m.written ∙ n.written) in
    let rt = rest_is_last t it in
    let ru = rest_is_last u iu in
    let ht = shares_taken literal_no_slash t.segments m.taken rt (segments_lawful it.text t it.means) m.each in
    let hu = shares_taken literal_no_slash u.segments n.taken ru (segments_lawful iu.text u iu.means) n.each in
    let pieces : shares m.taken ≡ shares n.taken =
    one_cutting (shares m.taken) (shares n.taken) (all_uncut t.segments (shares m.taken) ht)
    (all_uncut u.segments (shares n.taken) hu) one.0 in
    (one.1, takers_ordered t.segments u.segments (shares n.taken) rt ru (subst (TakeEach t.segments) pieces ht) hu)

-- ---- bindings

-- the place by a test, as `method_rank` has it
abbrev place : Bool → ℕ
place b = if b then 0 else 1

-- bindings that serve a method at one place have one method
same_method : (method : List ℕ) (a b : Binding) → Serves method a → Serves method b
    → method_rank method a ≡ method_rank method b → a.method ≡ b.method
same_method method a b h k e = pick (bytes_eq a.method method) (bytes_eq b.method method) refl refl e
  where
    other : (c : Binding) → Serves method c → false ≡ bytes_eq c.method method → c.method ≡ every_method
    other c s n = elim s [ inl own ↦ absurd (cc (n, (bytes_eq-Decides c.method method).1 own)) | inr every ↦ every ]

    pick : (x y : Bool) → x ≡ bytes_eq a.method method → y ≡ bytes_eq b.method method → place x ≡ place y
        → a.method ≡ b.method
    pick true true p q e =
        (bytes_eq-Decides a.method method).0 (sym p) ∙ sym ((bytes_eq-Decides b.method method).0 (sym q))
    pick true false p q e = absurd (omega arith)
    pick false true p q e = absurd (omega arith)
    pick false false p q e = other a h p ∙ sym (other b k q)

-- of two bindings that serve a method and fit a path, and are not one route, one precedes the other
pub one_precedes : (method path : List ℕ) (a b : Binding) → IsTemplate a.template → IsTemplate b.template
    → Serves method a → Serves method b
    → Fits a.template path → Fits b.template path → (IsSameRoute a b → ⊥) → Precedes method a b ⊎ Precedes method b a
one_precedes method path a b ia ib sa sb fa fb apart =
    elim (cases_order (method_rank method a) (method_rank method b)) [
      | inl same ↦ elim (cases_order (verb_rank a.template) (verb_rank b.template)) [
        | inl verbs ↦ by_segments same verbs (fitting_ordered a.template b.template path ia ib fa fb verbs)
        | inr less ↦ elim less [ inl low ↦ inl (inr (same, inl low)) | inr high ↦ inr (inr (sym same, inl high)) ]
      ]
      | inr less ↦ elim less [ inl low ↦ inl (inl low) | inr high ↦ inr (inl high) ]
    ]
  where
    by_segments : method_rank method a ≡ method_rank method b → verb_rank a.template ≡ verb_rank b.template
        → (a.template.verb ≡ b.template.verb) × Ordered a.template.segments b.template.segments
        → Precedes method a b ⊎ Precedes method b a
    by_segments m v o =
        elim o.1 [
          | inl same ↦ absurd (apart (same_method method a b sa sb m, (same, o.0)))
          | inr one ↦
              elim one [
                | inl before ↦ inl (inr (m, inr (v, before)))
                | inr behind ↦
                    inr (inr (sym m, inr (sym v, behind)))
              ]
        ]
