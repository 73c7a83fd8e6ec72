-- Each request has a choice (`each_request_has_a_choice`).
use Rattle.std.proofs.Common.{◌≡◌, ◌<◌, ◌↔◌, inl, inr, ◌++◌, ◌*◌, ◌^◌, ◌%◌, ℕ, List, [], ◌∷◌, length, map, slice_get, Option, Some, None, MatchOption, unwrap_or, bit_or, refl, sym, ap, ◌∙◌, subst, arith, append_assoc}
use Rattle.std.proofs.lemmas.List.{append-nil}
use Rattle.std.proofs.lemmas.Nat.Bits.{bit_at_set_same, bit_at_set_other}
use Rattle.std.specs.Int.{bit_at, w64}
use Rattle.http_rules.specs.Routes.{AreRoutesApart}
use Rattle.http_rules.specs.Template.{IsTemplate}
use Rattle.http_rules.specs.TemplateMatch.{Fits, Matches}
use Rattle.http_rules.specs.declared.template.Binding.{Binding}
use Rattle.path_router.proofs.BitLemmas.{AreBits, bits_at_first, bits_told, bits_with, bits_without}
use Rattle.path_router.proofs.ChoiceLemmas.{HaveTemplates, each_at, one_at}
use Rattle.path_router.proofs.CountLemmas.{methods_counted}
use Rattle.path_router.proofs.DecidedFits.{fit_decided, same_bytes}
use Rattle.path_router.proofs.MethodLemmas.{method_there, methods_rise}
use Rattle.path_router.proofs.OrderLemmas.{asymmetric}
use Rattle.path_router.proofs.SearchLemmas.{apart_at, below_length, stays_best, still_at, taken_over}
use Rattle.path_router.proofs.TotalLemmas.{one_precedes}
use Rattle.path_router.specs.BindingMethods.{methods_of}
use Rattle.path_router.specs.RoutableBindings.{AreRoutable}
use Rattle.path_router.specs.RouteChoice.{IsChoice, IsMethodThatFits, IsNotFound, IsUnserved, Precedes, Serves, SomeFits, ends_of, every_method}
use Rattle.path_router.specs.RouteSearch.{IsBest, TakesOver}
use Rattle.path_router.specs.declared.captures.Span.{Span}
use Rattle.path_router.specs.declared.routed.Routed.{Routed}
use Rattle.path_router.specs.declared.routed.Routed.TheVariants.{Found, WrongMethod, NotFound}

serves_decided : (method : List ℕ) (b : Binding) → Dec (Serves method b)
serves_decided method b =
    elim (same_bytes b.method method) [
      | yes e ↦ yes (inl e)
      | no n ↦ elim (same_bytes b.method every_method) [
        | yes e ↦ yes (inr e)
        | no m ↦ no (λ s. elim s [ inl e ↦ n e | inr e ↦ m e ])
      ]
    ]

-- an item stands behind those before it
here_at : {X : Type 0} (before : List X) (x : X) (more : List X)
    → slice_get (before ++ x ∷ more) (length before) ≡ Some x
here_at [] x more = refl
here_at (y ∷ before) x more = here_at before x more

-- ---- the first of all

module _ (bindings : List Binding) (method path : List ℕ) (ts : HaveTemplates bindings)
    (apart : AreRoutesApart bindings)
  where
    -- the bindings are those before, one, and more
    module _ (before more : List Binding) (b : Binding) (all_are : bindings ≡ before ++ b ∷ more) where
      there : (i : ℕ) (c : Binding) → slice_get before i ≡ Some c → slice_get bindings i ≡ Some c
      there i c e = subst (λ z. slice_get z i ≡ Some c) (sym all_are) (still_at before (b ∷ more) i c e)

      own_there : slice_get bindings (length before) ≡ Some b
      own_there = subst (λ z. slice_get z (length before) ≡ Some b) (sym all_are) (here_at before b more)

      own_template : IsTemplate b.template
      own_template = each_at (λ (z : Binding). IsTemplate z.template) bindings (length before) b ts own_there

      leading : (best : Option ℕ) → IsBest before method path best → Serves method b → Fits b.template path
          → Dec (TakesOver bindings method path best b)
      leading None is s f = yes (record { serves = s; fits = f; leads = tt })
      leading (Some j) is s f =
          let c = is.0 in
          let first = is.1 in
          let at = there j c first.binding_is in
          elim (one_precedes method path c b (each_at (λ (z : Binding). IsTemplate z.template) bindings j c ts at)
          own_template first.serves s first.fits f
          (apart_at bindings j (length before) c b apart (below_length before j c first.binding_is) at own_there)) [
            | inl ahead ↦
                no (λ t. let same : t.leads.0 ≡ c = one_at bindings j j t.leads.0 c refl t.leads.1 at in
                asymmetric method b c (subst (Precedes method b) same t.leads.2) ahead)
            | inr behind ↦ yes (record { serves = s; fits = f; leads = (c, at, behind) })
          ]

      takes_over_decided : (best : Option ℕ) → IsBest before method path best
          → Dec (TakesOver bindings method path best b)
      takes_over_decided best is =
          elim (serves_decided method b) [
            | yes s ↦ elim (fit_decided b.template path own_template) [
              | yes f ↦ leading best is s f
              | no n ↦ no (λ t. n t.fits)
            ]
            | no n ↦ no (λ t. n t.serves)
          ]

      one_on : (best : Option ℕ) → IsBest before method path best
          → (o : Option ℕ) × IsBest (before ++ b ∷ []) method path o
      one_on best is =
          elim (takes_over_decided best is) [
            | yes t ↦ (Some (length before), (b, taken_over bindings before method path best b there is t))
            | no n ↦ (best, stays_best bindings before method path best b there own_there ts apart is n)
          ]

    best_on : (before more : List Binding) → bindings ≡ before ++ more → (best : Option ℕ)
        → IsBest before method path best → (o : Option ℕ) × IsBest bindings method path o
    best_on before [] e best is =
        (best, subst (λ z. IsBest z method path best) (sym (e ∙ append-nil before)) is)
    best_on before (b ∷ more) e best is =
        let on = one_on before more b e best is in
        best_on (before ++ b ∷ []) more (e ∙ sym (append_assoc before (b ∷ []) more)) on.0 on.1

-- ---- the bits of the methods that fit

module _ (bindings : List Binding) (path : List ℕ) (r : AreRoutable bindings) where
  with_one : (before : List Binding) (b : Binding) (bits : Option ℕ) → AreBits (methods_of bindings) before path bits
      → (n : ℕ) → slice_get (methods_of bindings) n ≡ Some b.method → Dec (Fits b.template path)
      → (o : Option ℕ) × AreBits (methods_of bindings) (before ++ b ∷ []) path o
  with_one before b bits a n at (no other) = (bits, bits_without (methods_of bindings) before b path bits a other)
  with_one before b bits a n at (yes f) =
      let old = unwrap_or bits 0 in
      let within : n < 64 =
      omega (arith, below_length (methods_of bindings) n b.method at, methods_counted bindings, r.methods) in
      let new = bit_or old (1 * 2 ^ n % 2 ^ 64) in (
        Some new,
        bits_with (methods_of bindings) before b path bits n new (methods_rise bindings) a f at
            (bit_at_set_same w64 old n within)
            (λ i other. bit_at_set_other w64 old n within i other),
      )

  bits_on : (before more : List Binding) → bindings ≡ before ++ more → (bits : Option ℕ)
      → AreBits (methods_of bindings) before path bits
      → (o : Option ℕ) × AreBits (methods_of bindings) bindings path o
  bits_on before [] e bits a =
      (bits, subst (λ z. AreBits (methods_of bindings) z path bits) (sym (e ∙ append-nil before)) a)
  bits_on before (b ∷ more) e bits a =
      let own = own_there bindings [] path r.templates r.apart before more b e in
      let is = own_template bindings [] path r.templates r.apart before more b e in
      let number = method_there bindings (length before) b own in
      let on = with_one before b bits a number.0 number.1 (fit_decided b.template path is) in
      bits_on (before ++ b ∷ []) more (e ∙ sym (append_assoc before (b ∷ []) more)) on.0 on.1

-- ---- the answer

abbrev spans_from : List (ℕ × ℕ) → List Span
spans_from ends = map (λ (p : ℕ × ℕ). let s : Span = record { from = p.0; to = p.1 } in s) ends

ends_back : (ends : List (ℕ × ℕ)) → ends ≡ map ends_of (spans_from ends)
ends_back [] = refl
ends_back (e ∷ ends) = ap (λ z. e ∷ z) (ends_back ends)

refused_choice : (bindings : List Binding) (method path : List ℕ) → IsUnserved bindings method path → (bits : Option ℕ)
    → MatchOption bits (IsNotFound bindings path)
    (λ n. SomeFits bindings path × ((i : ℕ) → (bit_at n i ≡ 1) ↔ IsMethodThatFits bindings path i))
    → (r : Routed) × IsChoice bindings method path r
refused_choice bindings method path u None none = (NotFound, none)
refused_choice bindings method path u (Some n) told =
    (WrongMethod n, record { some = told.0; unserved = u; numbers = told.1 })

-- each request has a choice
pub each_choice : (bindings : List Binding) (method path : List ℕ) → AreRoutable bindings
    → (r : Routed) × IsChoice bindings method path r
each_choice bindings method path r =
    let best = best_on bindings method path r.templates r.apart [] bindings refl None (λ i b e s f. absurd (cc (e))) in
    answer best.0 best.1
  where
    answer : (o : Option ℕ) → IsBest bindings method path o → (r : Routed) × IsChoice bindings method path r
    answer (Some index) is =
        let first = is.1 in
        let ends = first.fits.0 in (
          Found index (spans_from ends),
          record {
            binding = is.0;
            first = first;
            matches = subst (Matches is.0.template path) (ends_back ends) first.fits.1;
          },
        )
    answer None is =
        let bits = bits_on bindings path r [] bindings refl None (bits_at_first (methods_of bindings) path) in
        refused_choice bindings method path is bits.0 (bits_told bindings path bits.0 bits.1)
