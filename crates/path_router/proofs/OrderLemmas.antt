-- The order of segments, templates and bindings is strict.
use Rattle.std.proofs.Common.{◌≡◌, ◌<◌, ◌↔◌, ◌⊎◌, inl, inr, ℕ, length, List, [], ◌∷◌, ◌++◌, refl, sym, ap, ◌∙◌, subst, arith, lit<}
use Rattle.http_rules.specs.declared.template.Binding.{Binding}
use Rattle.http_rules.specs.declared.template.Segment.{Segment}
use Rattle.http_rules.specs.declared.template.Segment.TheVariants.{Literal, One, Rest}
use Rattle.http_rules.specs.declared.template.Template.{Template}
use Rattle.http_rules.specs.TemplateOrder.{front_rank, StandBefore, IsTemplateBefore}
use Rattle.path_router.specs.RouteChoice.{Precedes}

-- ---- segments

-- what is put in front of both changes nothing
pub put_front : (s : Segment) (a b : List Segment) → StandBefore a b → StandBefore (s ∷ a) (s ∷ b)
put_front s a b h = record {
  alike = s ∷ h.alike;
  more = h.more;
  others = h.others;
  first_is = ap (λ z. s ∷ z) h.first_is;
  second_is = ap (λ z. s ∷ z) h.second_is;
  differ = h.differ;
}

-- a lower first place decides
pub by_front : (a b : List Segment) → front_rank a < front_rank b → StandBefore a b
by_front a b h = record { alike = []; more = a; others = b; first_is = refl; second_is = refl; differ = h }

-- a segment stands behind the end
pub end_first : (s : Segment) (ss : List Segment) → front_rank [] < front_rank (s ∷ ss)
end_first (Literal l) ss = lit< tt
end_first One ss = lit< tt
end_first Rest ss = lit< tt

same_place : (s t : Segment) (a b : List Segment) → s ≡ t → front_rank (s ∷ a) ≡ front_rank (t ∷ b)
same_place s t a b e = ap (λ z. front_rank (z ∷ a)) e ∙ of_one t
  where
    of_one : (u : Segment) → front_rank (u ∷ a) ≡ front_rank (u ∷ b)
    of_one (Literal l) = refl
    of_one One = refl
    of_one Rest = refl

head_is : (s : Segment) (a : List Segment) (z : Segment) (b : List Segment) → s ∷ a ≡ z ∷ b → s ≡ z
head_is s a z b e = cc (e)

tail_is : (s : Segment) (a : List Segment) (z : Segment) (b : List Segment) → s ∷ a ≡ z ∷ b → a ≡ b
tail_is s a z b e = cc (e)

-- the first places decide, or are equal and what is behind them decides
pub decided : (s t : Segment) (a b : List Segment) → StandBefore (s ∷ a) (t ∷ b)
    → (front_rank (s ∷ a) < front_rank (t ∷ b)) ⊎ ((s ≡ t) × StandBefore a b)
decided s t a b h = on h.alike h.first_is h.second_is
  where
    on : (alike : List Segment) → s ∷ a ≡ alike ++ h.more → t ∷ b ≡ alike ++ h.others
        → (front_rank (s ∷ a) < front_rank (t ∷ b)) ⊎ ((s ≡ t) × StandBefore a b)
    on [] e f =
        inl (subst (λ z. front_rank z < front_rank (t ∷ b)) (sym e)
        (subst (λ z. front_rank h.more < front_rank z) (sym f) h.differ))
    on (z ∷ zs) e f = inr (
      head_is s a z (zs ++ h.more) e ∙ sym (head_is t b z (zs ++ h.others) f),
      record {
        alike = zs;
        more = h.more;
        others = h.others;
        first_is = tail_is s a z (zs ++ h.more) e;
        second_is =
            tail_is t b z (zs ++ h.others) f;
        differ = h.differ;
      },
    )

-- nothing stands before the end
pub none_before_end : (a : List Segment) → StandBefore a [] → ⊥
none_before_end a h = on h.alike h.second_is
  where
    on : (alike : List Segment) → [] ≡ alike ++ h.others → ⊥
    on [] f = let low : front_rank h.more < 0 = subst (λ z. front_rank h.more < front_rank z) (sym f) h.differ in
        omega arith
    on (z ∷ zs) f = absurd (cc (f))

-- no segments stand before themselves
pub segments_irreflexive : (a : List Segment) → StandBefore a a → ⊥
segments_irreflexive [] h = none_before_end [] h
segments_irreflexive (s ∷ a) h =
    elim (decided s s a a h) [ inl less ↦ omega arith | inr on ↦ segments_irreflexive a on.1 ]

-- what stands before segments stands before those behind them
pub segments_transitive : (a b c : List Segment) → StandBefore a b → StandBefore b c → StandBefore a c
segments_transitive a [] c p q = absurd (none_before_end a p)
segments_transitive a (t ∷ b) [] p q = absurd (none_before_end (t ∷ b) q)
segments_transitive [] (t ∷ b) (u ∷ c) p q = by_front [] (u ∷ c) (end_first u c)
segments_transitive (s ∷ a) (t ∷ b) (u ∷ c) p q =
    elim (decided s t a b p) [
      | inl less ↦ elim (decided t u b c q) [
        | inl more ↦ by_front (s ∷ a) (u ∷ c) (omega arith)
        | inr on ↦
            by_front (s ∷ a) (u ∷ c)
            (let same : front_rank (t ∷ b) ≡ front_rank (u ∷ c) = same_place t u b c on.0 in omega arith)
      ]
      | inr same ↦ elim (decided t u b c q) [
        | inl more ↦
            by_front (s ∷ a) (u ∷ c)
            (let e : front_rank (s ∷ a) ≡ front_rank (t ∷ b) = same_place s t a b same.0 in omega arith)
        | inr on ↦
            subst (λ z. StandBefore (s ∷ a) (z ∷ c)) (same.0 ∙ on.0)
            (put_front s a c (segments_transitive a b c same.1 on.1))
      ]
    ]

-- ---- a rank first, and what it does not decide by an order

-- the order by a rank, and then by another order
abbrev pub ByRank : ℕ → ℕ → Type 0 → Type 0
ByRank m n P = (m < n) ⊎ ((m ≡ n) × P)

rank_irreflexive : (n : ℕ) (P : Type 0) → (P → ⊥) → ByRank n n P → ⊥
rank_irreflexive n P h r = elim r [ inl less ↦ omega arith | inr same ↦ h same.1 ]

rank_transitive : (l m n : ℕ) (P Q R : Type 0) → (P → Q → R) → ByRank l m P → ByRank m n Q → ByRank l n R
rank_transitive l m n P Q R h p q =
    elim p [
      | inl less ↦ elim q [ inl more ↦ inl (omega arith) | inr same ↦ inl (let e : m ≡ n = same.0 in omega arith) ]
      | inr on ↦
          elim q [
            | inl more ↦ inl (let e : l ≡ m = on.0 in omega arith)
            | inr same ↦
                inr (on.0 ∙ same.0, h on.1 same.1)
          ]
    ]

-- ---- templates and bindings

-- no template stands before itself
pub templates_irreflexive : (t : Template) → IsTemplateBefore t t → ⊥
templates_irreflexive t h = rank_irreflexive _ _ (segments_irreflexive t.segments) h

-- what stands before a template stands before those behind it
pub templates_transitive : (t u v : Template) → IsTemplateBefore t u → IsTemplateBefore u v → IsTemplateBefore t v
templates_transitive t u v p q = rank_transitive _ _ _ _ _ _ (segments_transitive t.segments u.segments v.segments) p q

-- no binding precedes itself
pub irreflexive : (method : List ℕ) (a : Binding) → Precedes method a a → ⊥
irreflexive method a h = rank_irreflexive _ _ (templates_irreflexive a.template) h

-- what a binding precedes, those that precede it precede too
pub transitive : (method : List ℕ) (a b c : Binding) → Precedes method a b → Precedes method b c → Precedes method a c
transitive method a b c p q = rank_transitive _ _ _ _ _ _ (templates_transitive a.template b.template c.template) p q

-- no two bindings precede one another
pub asymmetric : (method : List ℕ) (a b : Binding) → Precedes method a b → Precedes method b a → ⊥
asymmetric method a b p q = irreflexive method a (transitive method a b a p q)

-- ---- one position on

-- behind equal segments the rest decides
pub equal_front : (s t : Segment) (a b : List Segment) → s ≡ t → StandBefore a b ↔ StandBefore (s ∷ a) (t ∷ b)
equal_front s t a b e = (
  (λ h. subst (λ z. StandBefore (s ∷ a) (z ∷ b)) e (put_front s a b h)),
  (λ h. elim
      (decided s t a b h) [
        | inl less ↦
            (let same : front_rank (s ∷ a) ≡ front_rank (t ∷ b) = same_place s t a b e in absurd (omega arith))
        | inr on ↦
            on.1
      ]),
)

-- segments that differ decide by their places
pub other_front : (s t : Segment) (a b : List Segment) → (s ≡ t → ⊥) → (front_rank (s ∷ []) < front_rank (t ∷ []))
    ↔ StandBefore (s ∷ a) (t ∷ b)
other_front s t a b n =
    let own : front_rank (s ∷ []) ≡ front_rank (s ∷ a) = same_place s s [] a refl in
    let other : front_rank (t ∷ []) ≡ front_rank (t ∷ b) = same_place t t [] b refl in (
      (λ h. by_front (s ∷ a) (t ∷ b) (omega (arith, own, other, h))),
      (λ h. elim (decided s t a b h) [ inl less ↦ omega (arith, own, other, less) | inr on ↦ absurd (n on.0) ]),
    )

-- at the end of the first, it stands before where the second goes on
pub end_decides : (b : List Segment) → (0 < length b) ↔ StandBefore [] b
end_decides [] = ((λ h. absurd (omega arith)), (λ h. absurd (none_before_end [] h)))
end_decides (t ∷ b) = ((λ h. by_front [] (t ∷ b) (end_first t b)), (λ h. omega arith))

-- equal lists stand alike
pub alike_lists : (a b c d : List Segment) → a ≡ c → b ≡ d → StandBefore a b → StandBefore c d
alike_lists a b c d e f h = subst (λ z. StandBefore z d) e (subst (StandBefore a) f h)
