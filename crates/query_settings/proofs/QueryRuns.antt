-- Reading the parameters of a query one after another.
use Rattle.std.proofs.Common.{◌≡◌, ◌∙◌, ◌++◌, ◌⊎◌, ℕ, Bool, true, false, cond, List, [], ◌∷◌, Result, Ok, Err, refl, sym, ap, subst, inl, inr}
use Rattle.std.specs.List.{filter}
use Rattle.field_settings.specs.declared.setting.Setting.{Setting}
use Rattle.form_urlencoded.specs.Form.{decode}
use Rattle.query_parameters.specs.QueryParameters.{EncodedParameter, parameters_of}
use Rattle.query_settings.specs.ParameterFaults.{QueryScope}
use Rattle.query_settings.specs.QuerySettings.{Assignment, Assigns, IsAtFault, IsQueryReading, IsReadBehind, counted, counts}
use Rattle.query_settings.specs.QuerySteps.{IsParameterStep, Stands}
use Rattle.query_settings.specs.declared.fault.ParameterKind.{ParameterKind}
use Rattle.query_settings.specs.declared.fault.QueryFault.{QueryFault}
use Rattle.query_settings.specs.declared.fault.QueryFault.TheVariants.{Parameter, NoMemory}
use Rattle.query_settings.specs.declared.gathered.Gathered.{Gathered}

-- what has come of the first parameters, where these are left: what is read of the rest is read of all
pub record Progress (s : QueryScope) (ignore : List (List ℕ)) (query : List ℕ) (g : Gathered)
    (left : List EncodedParameter) : Type 0 where
  pub made : List Assignment
  pub stands : Stands g made
  pub rest : (r : Result (List Setting) QueryFault) → IsReadBehind s made (filter (counts ignore) left) r
      → IsReadBehind s [] (counted ignore query) r

module _ (s : QueryScope) (ignore : List (List ℕ)) (query : List ℕ) where
  -- nothing was read
  pub begun : (g : Gathered) (left : List EncodedParameter) → Stands g [] → left ≡ parameters_of query
      → Progress s ignore query g left
  begun g left h e = record {
    made = [];
    stands = h;
    rest = λ r x. subst (λ ps. IsReadBehind s [] (filter (counts ignore) ps) r) e x;
  }

  module _ (g : Gathered) (all : List EncodedParameter) (p : EncodedParameter) (left : List EncodedParameter)
      (e : all ≡ p ∷ left) (came : Progress s ignore query g all) where
    next_counts : (t : Bool) → counts ignore p ≡ t
        → cond t (p ∷ filter (counts ignore) left) (filter (counts ignore) left) ≡ filter (counts ignore) all
    next_counts t h =
        ap (λ u. cond u (p ∷ filter (counts ignore) left) (filter (counts ignore) left)) (sym h)
        ∙ ap (filter (counts ignore)) (sym e)

    -- one parameter more was read
    pub stepped : (n : Gathered)
        → ((made : List Assignment) → Stands g made → IsParameterStep s ignore made p n (Ok tt))
        → Progress s ignore query n left
    stepped n step = by_step (step came.made came.stands)
      where
        by_step : IsParameterStep s ignore came.made p n (Ok tt) → Progress s ignore query n left
        by_step (inl skipped) = record {
          made = came.made;
          stands = skipped.1;
          rest = λ r x. came.rest r (subst (λ ps. IsReadBehind s came.made ps r) (next_counts false skipped.0) x);
        }
        by_step (inr set) = record {
          made = came.made ++ set.1.0 ∷ [];
          stands = set.1.2;
          rest = λ r x.
              came.rest r (subst (λ ps. IsReadBehind s came.made ps r) (next_counts true set.0)
              (inl (set.1.0, set.1.1, x)));
        }

    -- a parameter was at fault
    pub failed : (n : Gathered) (f : QueryFault)
        → ((made : List Assignment) → Stands g made → IsParameterStep s ignore made p n (Err f))
        → IsQueryReading s ignore query (Err f)
    failed n NoMemory step = tt
    failed n (Parameter number k) step =
        let h = step came.made came.stands in
        came.rest (Err (Parameter number k))
        (subst (λ ps. IsReadBehind s came.made ps (Err (Parameter number k))) (next_counts true h.0)
        (inr (k, h.2, ap (λ m. Err (Parameter m k)) h.1)))

  -- all were read
  pub ended : (g : Gathered) (left : List EncodedParameter) → left ≡ [] → Progress s ignore query g left
      → IsQueryReading s ignore query (Ok g.settings.items)
  ended g left e came =
      came.rest (Ok g.settings.items)
      (subst (λ ps. IsReadBehind s came.made (filter (counts ignore) ps) (Ok g.settings.items)) (sym e)
      (ap Ok came.stands.settings))
