-- A request has one answer at most, and what is found lies inside the path.
use Rattle.std.proofs.Common.{◌≡◌, ◌<◌, ◌≤◌, inl, inr, ℕ, zero, suc, List, [], ◌∷◌, length, map, slice_get, Some, refl, sym, ap, ap₂, ◌∙◌, subst, arith}
use Rattle.std.proofs.lemmas.Bool.{cases_eq}
use Rattle.std.proofs.lemmas.List.{length-map}
use Rattle.std.proofs.lemmas.Nat.Bits.{bit_at-lt, same_from_bits}
use Rattle.std.specs.Int.{bit_at}
use Rattle.std.specs.List.{AllByRecursion}
use Rattle.base.proofs.EachLemmas.{each_image}
use Rattle.http_rules.proofs.Theorems.{one_fit, spans_inside}
use Rattle.http_rules.specs.Template.{IsTemplate}
use Rattle.http_rules.specs.TemplateMatch.{Matches}
use Rattle.http_rules.specs.declared.template.Binding.{Binding}
use Rattle.http_rules.specs.declared.template.Template.{Template}
use Rattle.path_router.proofs.OrderLemmas.{asymmetric}
use Rattle.path_router.specs.RouteChoice.{IsChoice, IsFirst, IsFound, IsWrongMethod, ends_of}
use Rattle.path_router.specs.declared.captures.Span.{Span}
use Rattle.path_router.specs.declared.routed.Routed.{Routed}
use Rattle.path_router.specs.declared.routed.Routed.TheVariants.{Found, WrongMethod, NotFound}

-- each binding has a template
abbrev pub HaveTemplates : List Binding → Type 0
HaveTemplates bindings = AllByRecursion (λ (b : Binding). IsTemplate b.template) bindings

-- what holds of each item holds of that of an index
pub each_at : {X : Type 0} (P : X → Type 0) (xs : List X) (i : ℕ) (x : X) → AllByRecursion P xs
    → slice_get xs i ≡ Some x → P x
each_at P [] i x a e = absurd (cc (e))
each_at P (y ∷ xs) zero x a e = let same : y ≡ x = cc (e) in subst P same a.0
each_at P (y ∷ xs) (suc i) x a e = each_at P xs i x a.1 e

-- two items of one index are one
pub one_at : {X : Type 0} (xs : List X) (i j : ℕ) (x y : X) → i ≡ j → slice_get xs i ≡ Some x → slice_get xs j ≡ Some y
    → x ≡ y
one_at xs i j x y s e f = let both : Some x ≡ Some y = sym e ∙ ap (slice_get xs) s ∙ f in cc (both)

-- spans are told by their offsets
spans_told : (a b : List Span) → map ends_of a ≡ map ends_of b → a ≡ b
spans_told [] [] e = refl
spans_told [] (t ∷ b) e = absurd (cc (e))
spans_told (s ∷ a) [] e = absurd (cc (e))
spans_told (s ∷ a) (t ∷ b) e =
    let ends : ends_of s ≡ ends_of t = cc (e) in
    let rest : map ends_of a ≡ map ends_of b = cc (e) in
    let same : s ≡ t = ap (λ (p : ℕ × ℕ). let x : Span = record { from = p.0; to = p.1 } in x) ends in
    ap (λ z. z ∷ a) same ∙ ap (λ z. t ∷ z) (spans_told a b rest)

-- one binding is the first
first_index : (bindings : List Binding) (method path : List ℕ) (i j : ℕ) (a b : Binding)
    → IsFirst bindings method path i a → IsFirst bindings method path j b → i ≡ j
first_index bindings method path i j a b f g =
    elim (cases_eq i j) [
      | inl same ↦ same
      | inr other ↦
          absurd (asymmetric method a b (f.precedes j b g.binding_is (λ e. other (sym e)) g.serves g.fits)
          (g.precedes i a f.binding_is other f.serves f.fits))
    ]

found_once : (bindings : List Binding) (method path : List ℕ) (i j : ℕ) (s t : List Span) → HaveTemplates bindings
    → IsFound bindings method path i s → IsFound bindings method path j t → Found i s ≡ Found j t
found_once bindings method path i j s t all f g =
    let index = first_index bindings method path i j f.binding g.binding f.first g.first in
    let binding = one_at bindings i j f.binding g.binding index f.first.binding_is g.first.binding_is in
    let is = each_at (λ (b : Binding). IsTemplate b.template) bindings j g.binding all g.first.binding_is in
    let own = subst (λ (b : Binding). Matches b.template path (map ends_of s)) binding f.matches in
    ap₂ Found index (spans_told s t (one_fit g.binding.template path (map ends_of s) (map ends_of t) is own g.matches))

-- two bits that are set in the same case are equal
same_bit : (a b : ℕ) → a < 2 → b < 2 → (a ≡ 1 → b ≡ 1) → (b ≡ 1 → a ≡ 1) → a ≡ b
same_bit a b h k f g =
    elim (cases_eq a 1) [
      | inl one ↦ one ∙ sym (f one)
      | inr other ↦
          elim (cases_eq b 1) [ inl one ↦ absurd (other (g one)) | inr none ↦ omega arith ]
    ]

same_bits : (bindings : List Binding) (method path : List ℕ) (a b : ℕ) → IsWrongMethod bindings method path a
    → IsWrongMethod bindings method path b → a ≡ b
same_bits bindings method path a b f g =
    same_from_bits a b
    (λ i. same_bit (bit_at a i) (bit_at b i) (bit_at-lt a i) (bit_at-lt b i)
    (λ one. (g.numbers i).1 ((f.numbers i).0 one)) (λ one. (f.numbers i).1 ((g.numbers i).0 one)))

-- a request has one answer at most
pub one_choice : (bindings : List Binding) (method path : List ℕ) (r s : Routed) → HaveTemplates bindings
    → IsChoice bindings method path r → IsChoice bindings method path s → r ≡ s
one_choice bindings method path (Found i s) (Found j t) all f g = found_once bindings method path i j s t all f g
one_choice bindings method path (Found i s) (WrongMethod b) all f g =
    absurd (g.unserved i f.binding f.first.binding_is f.first.serves f.first.fits)
one_choice bindings method path (Found i s) NotFound all f g = absurd (g i f.binding f.first.binding_is f.first.fits)
one_choice bindings method path (WrongMethod a) (Found j t) all f g =
    absurd (f.unserved j g.binding g.first.binding_is g.first.serves g.first.fits)
one_choice bindings method path (WrongMethod a) (WrongMethod b) all f g =
    ap WrongMethod (same_bits bindings method path a b f g)
one_choice bindings method path (WrongMethod a) NotFound all f g =
    absurd (g f.some.index f.some.binding f.some.binding_is f.some.fits)
one_choice bindings method path NotFound (Found j t) all f g = absurd (f j g.binding g.first.binding_is g.first.fits)
one_choice bindings method path NotFound (WrongMethod b) all f g =
    absurd (f g.some.index g.some.binding g.some.binding_is g.some.fits)
one_choice bindings method path NotFound NotFound all f g = refl

-- the spans of a template that matches a path are one for each variable, and lie inside the path
pub fitting_inside : (template : Template) (path : List ℕ) (spans : List Span)
    → Matches template path (map ends_of spans)
    → (length spans ≡ length template.variables)
    × AllByRecursion (λ (s : Span). (s.from ≤ s.to) × (s.to ≤ length path)) spans
fitting_inside template path spans matches =
    let inside = spans_inside template path (map ends_of spans) matches in (
      sym (length-map spans ends_of) ∙ inside.each,
      each_image ends_of (λ (p : ℕ × ℕ). (p.0 ≤ p.1) × (p.1 ≤ length path)) spans inside.inside,
    )

-- the spans of what is found are one for each variable, and lie inside the path
pub found_inside : (bindings : List Binding) (method path : List ℕ) (index : ℕ) (spans : List Span)
    → (found : IsFound bindings method path index spans)
    → (length spans ≡ length found.binding.template.variables)
    × AllByRecursion (λ (s : Span). (s.from ≤ s.to) × (s.to ≤ length path)) spans
found_inside bindings method path index spans found =
    fitting_inside found.binding.template path spans found.matches
