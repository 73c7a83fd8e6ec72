-- What is judged of a name, cause by cause.
use Rattle.std.proofs.Common.{◌≡◌, ◌∙◌, ℕ, Bool, true, false, cond, not, List, nat_lt, Option, Some, None, Result, Ok, Err, refl, sym, ap}
use Rattle.std.specs.List.{list_any}
use Rattle.http_rules.specs.declared.template.Body.{Body}
use Rattle.message_types.specs.declared.messages.Types.{Types}
use Rattle.query_settings.specs.ParameterFaults.{clashes, is_settable, is_taken, judged, levels_of}
use Rattle.query_settings.specs.QueryTargets.{numbers_of}
use Rattle.query_settings.specs.declared.fault.ParameterKind.{ParameterKind}
use Rattle.query_settings.specs.declared.fault.ParameterKind.TheVariants.{Unknown, Taken, NotALeaf, Twice, TooDeep}
use Rattle.query_settings.specs.declared.targets.Target.{Target}

-- the first of four causes
abbrev first_cause : Target → Bool → Bool → Bool → Bool → Result Target ParameterKind
first_cause t taken settable twice deep =
    cond taken (Err Taken)
    (cond (not settable) (Err NotALeaf) (cond twice (Err Twice) (cond deep (Err TooDeep) (Ok t))))

-- what may be set is settable, clashes with nothing and is not too deep
pub record MayBeSet (leaf twice deep : Bool) (t u : Target) : Type 0 where
  pub settable : leaf ≡ true
  pub free : twice ≡ false
  pub shallow : deep ≡ false
  pub same : t ≡ u

no_cause : (t u : Target) (a b d e : Bool) → first_cause t a b d e ≡ Ok u → MayBeSet b d e t u
no_cause t u true b d e h = absurd (cc h)
no_cause t u false false d e h = absurd (cc h)
no_cause t u false true true e h = absurd (cc h)
no_cause t u false true false true h = absurd (cc h)
no_cause t u false true false false h = record { settable = refl; free = refl; shallow = refl; same = cc h }

module _ (types : Types) (paths : List (List ℕ)) (body : Body) (earlier : List Target) (t : Target) where
  pub by_taken : is_taken paths body (numbers_of t.steps) ≡ true
      → judged types paths body earlier (Some t) ≡ Err Taken
  by_taken a =
      ap (λ x. first_cause t x (is_settable types t) (list_any (clashes t) earlier) (nat_lt 100 (levels_of t))) a

  module _ (a : is_taken paths body (numbers_of t.steps) ≡ false) where
    pub by_leaf : is_settable types t ≡ false → judged types paths body earlier (Some t) ≡ Err NotALeaf
    by_leaf b =
        ap (λ x. first_cause t x (is_settable types t) (list_any (clashes t) earlier) (nat_lt 100 (levels_of t))) a
        ∙ ap (λ x. first_cause t false x (list_any (clashes t) earlier) (nat_lt 100 (levels_of t))) b

    module _ (b : is_settable types t ≡ true) where
      pub by_clash : list_any (clashes t) earlier ≡ true → judged types paths body earlier (Some t) ≡ Err Twice
      by_clash d =
          ap (λ x. first_cause t x (is_settable types t) (list_any (clashes t) earlier) (nat_lt 100 (levels_of t))) a
          ∙ ap (λ x. first_cause t false x (list_any (clashes t) earlier) (nat_lt 100 (levels_of t))) b
          ∙ ap (λ x. first_cause t false true x (nat_lt 100 (levels_of t))) d

      pub by_depth : list_any (clashes t) earlier ≡ false → (e : Bool) → nat_lt 100 (levels_of t) ≡ e
          → judged types paths body earlier (Some t) ≡ cond e (Err TooDeep) (Ok t)
      by_depth d e h =
          ap (λ x. first_cause t x (is_settable types t) (list_any (clashes t) earlier) (nat_lt 100 (levels_of t))) a
          ∙ ap (λ x. first_cause t false x (list_any (clashes t) earlier) (nat_lt 100 (levels_of t))) b
          ∙ ap (λ x. first_cause t false true x (nat_lt 100 (levels_of t))) d
          ∙ ap (λ x. first_cause t false true false x) h

  -- what is judged so may be set
  pub may_be_set : (u : Target) → judged types paths body earlier (Some t) ≡ Ok u
      → MayBeSet (is_settable types t) (list_any (clashes t) earlier) (nat_lt 100 (levels_of t)) t u
  may_be_set u h =
      no_cause t u (is_taken paths body (numbers_of t.steps)) (is_settable types t) (list_any (clashes t) earlier)
      (nat_lt 100 (levels_of t)) h
