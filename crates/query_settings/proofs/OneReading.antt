-- What is read of a query is one thing, and there always is one.
use Rattle.std.proofs.Common.{◌≡◌, ◌≢◌, ◌∙◌, ◌++◌, ◌⊎◌, ℕ, List, [], ◌∷◌, Option, Some, None, Result, Ok, Err, refl, sym, ap, subst, inl, inr}
use Rattle.field_settings.specs.declared.setting.Setting.{Setting}
use Rattle.form_urlencoded.specs.Form.{decode}
use Rattle.leaf_texts.specs.LeafTexts.{IsLeafText, IsLeafTextFault, IsReadLeaf}
use Rattle.message_types.specs.declared.fields.Kind.{Kind}
use Rattle.message_types.specs.declared.messages.Types.{Types}
use Rattle.query_parameters.specs.QueryParameters.{EncodedParameter}
use Rattle.query_settings.specs.ParameterFaults.{QueryScope, judged_in}
use Rattle.query_settings.specs.QueryLaws.{AreSetBehind, FailsFirst, HasReading}
use Rattle.query_settings.specs.QuerySettings.{Assignment, Assigns, HasBadValue, IsAtFault, IsQueryReading, IsReadBehind, IsTextFault, counted, kind_of_fault, settings_of, targets_of}
use Rattle.query_settings.specs.declared.fault.ParameterKind.{ParameterKind}
use Rattle.query_settings.specs.declared.fault.ParameterKind.TheVariants as kinds
use Rattle.query_settings.specs.declared.fault.QueryFault.{QueryFault}
use Rattle.query_settings.specs.declared.fault.QueryFault.TheVariants.{Parameter, NoMemory}
use Rattle.query_settings.specs.declared.targets.Target.{Target}
use Rattle.scalar_texts.specs.declared.fault.ScalarFault.{ScalarFault}
use Rattle.scalar_texts.specs.declared.fault.ScalarFault.TheVariants as scalars
use Rattle.schema.specs.Layers.{ItemLayer}
use Rattle.schema.specs.declared.value.Item.{Item, out-Item, out-roll-Item, roll-Item, roll-out-Item}

-- ---- one thing

-- a text means one item at most, or has one fault, and not both
pub record AreApart : Type 0 where
  pub item : (types : Types) (kind : Kind) (text : List ℕ) (i j : ItemLayer)
      → IsLeafText types kind text i → IsLeafText types kind text j → i ≡ j
  pub apart : (types : Types) (kind : Kind) (text : List ℕ) (i : ItemLayer) (fault : ScalarFault)
      → IsLeafText types kind text i → IsLeafTextFault types kind text fault → ⊥
  pub fault : (types : Types) (kind : Kind) (text : List ℕ) (f g : ScalarFault)
      → IsLeafTextFault types kind text f → IsLeafTextFault types kind text g → f ≡ g

one_kind : AreApart → (types : Types) (kind : Kind) (text : List ℕ) (k l : ParameterKind)
    → IsTextFault types kind text k → IsTextFault types kind text l → k ≡ l
one_kind told types kind text k l h g =
    let same : h.0 ≡ g.0 = told.fault types kind text h.0 g.0 h.2 g.2 in
    let kinds : Some k ≡ Some l = sym h.1 ∙ ap kind_of_fault same ∙ g.1 in cc kinds

abbrev Judging : Type 0
Judging = Result Target ParameterKind

module _ (told : AreApart) (s : QueryScope) where
  one_assignment : (earlier : List Assignment) (name text : List ℕ) (a b : Assignment)
      → Assigns s earlier name text a → Assigns s earlier name text b → a ≡ b
  one_assignment earlier name text a b h g =
      let places : ◌≡◌ {A = Judging} (Ok a.target) (Ok b.target) = sym h.place ∙ g.place in
      let target : a.target ≡ b.target = cc places in
      let means : IsLeafText s.types a.target.kind text (out-Item b.item) =
      subst (λ (t : Target). IsLeafText s.types t.kind text (out-Item b.item)) (sym target) g.means in
      let opened : out-Item a.item ≡ out-Item b.item =
      told.item s.types a.target.kind text (out-Item a.item) (out-Item b.item) h.means means in
      let item : a.item ≡ b.item = sym (roll-out-Item a.item) ∙ ap roll-Item opened ∙ roll-out-Item b.item in
      ap (λ (t : Target). record { target = t; item = a.item }) target
      ∙ ap (λ (i : Item). record { target = b.target; item = i }) item

  bad_and_good : (earlier : List Assignment) (name text : List ℕ) (a : Assignment) (k : ParameterKind)
      → Assigns s earlier name text a → IsAtFault s earlier name text k → ⊥
  bad_and_good earlier name text a k h (inl e) =
      let places : ◌≡◌ {A = Judging} (Ok a.target) (Err k) = sym h.place ∙ e in cc places
  bad_and_good earlier name text a k h (inr w) =
      let places : ◌≡◌ {A = Judging} (Ok w.target) (Ok a.target) = sym w.place ∙ h.place in
      let target : w.target ≡ a.target = cc places in
      told.apart s.types a.target.kind text (out-Item a.item) w.wrong.0 h.means
      (subst (λ (t : Target). IsLeafTextFault s.types t.kind text w.wrong.0) target w.wrong.2)

  one_fault : (earlier : List Assignment) (name text : List ℕ) (k l : ParameterKind)
      → IsAtFault s earlier name text k → IsAtFault s earlier name text l → k ≡ l
  one_fault earlier name text k l (inl e) (inl f) =
      let places : ◌≡◌ {A = Judging} (Err k) (Err l) = sym e ∙ f in cc places
  one_fault earlier name text k l (inl e) (inr w) =
      let places : ◌≡◌ {A = Judging} (Ok w.target) (Err k) = sym w.place ∙ e in absurd (cc places)
  one_fault earlier name text k l (inr w) (inl e) =
      let places : ◌≡◌ {A = Judging} (Ok w.target) (Err l) = sym w.place ∙ e in absurd (cc places)
  one_fault earlier name text k l (inr w) (inr v) =
      let places : ◌≡◌ {A = Judging} (Ok w.target) (Ok v.target) = sym w.place ∙ v.place in
      let target : w.target ≡ v.target = cc places in
      one_kind told s.types v.target.kind text k l
      (subst (λ (t : Target). IsTextFault s.types t.kind text k) target w.wrong) v.wrong

  one_behind : (earlier : List Assignment) (ps : List EncodedParameter) (r t : Result (List Setting) QueryFault)
      → IsReadBehind s earlier ps r → IsReadBehind s earlier ps t → r ≡ t
  one_behind earlier [] r t h g = h ∙ sym g
  one_behind earlier (p ∷ ps) r t (inl a) (inl b) =
      let same : a.0 ≡ b.0 = one_assignment earlier (decode p.name) (decode p.value) a.0 b.0 a.1 b.1 in
      one_behind (earlier ++ a.0 ∷ []) ps r t a.2
      (subst (λ (x : Assignment). IsReadBehind s (earlier ++ x ∷ []) ps t) (sym same) b.2)
  one_behind earlier (p ∷ ps) r t (inl a) (inr f) =
      absurd (bad_and_good earlier (decode p.name) (decode p.value) a.0 f.0 a.1 f.1)
  one_behind earlier (p ∷ ps) r t (inr f) (inl a) =
      absurd (bad_and_good earlier (decode p.name) (decode p.value) a.0 f.0 a.1 f.1)
  one_behind earlier (p ∷ ps) r t (inr f) (inr g) =
      let same : f.0 ≡ g.0 = one_fault earlier (decode p.name) (decode p.value) f.0 g.0 f.1 g.1 in
      f.2 ∙ ap (λ k. Err (Parameter p.number k)) same ∙ sym g.2

  behind : (ignore : List (List ℕ)) (query : List ℕ) (r : Result (List Setting) QueryFault)
      → IsQueryReading s ignore query r → r ≢ Err NoMemory → IsReadBehind s [] (counted ignore query) r
  behind ignore query (Ok settings) h n = h
  behind ignore query (Err (Parameter m k)) h n = h
  behind ignore query (Err NoMemory) h n = absurd (n refl)

  -- what is read of a query is one thing
  pub one_reading : (ignore : List (List ℕ)) (query : List ℕ) (r t : Result (List Setting) QueryFault)
      → IsQueryReading s ignore query r → IsQueryReading s ignore query t → r ≢ Err NoMemory → t ≢ Err NoMemory
      → r ≡ t
  one_reading ignore query r t h g n m =
      one_behind [] (counted ignore query) r t (behind ignore query r h n) (behind ignore query t g m)

-- ---- there is one

-- each text means an item or has a fault, which is not out of memory
pub record EachIsRead : Type 0 where
  pub read : (types : Types) (kind : Kind) (text : List ℕ) → IsReadLeaf types kind text
  pub memory : (types : Types) (kind : Kind) (text : List ℕ) → IsLeafTextFault types kind text scalars.NoMemory → ⊥

module _ (each : EachIsRead) (types : Types) (kind : Kind) (text : List ℕ) where
  told_fault : (f : ScalarFault) → IsLeafTextFault types kind text f
      → (k : ParameterKind) × IsTextFault types kind text k
  told_fault scalars.BadText h = (kinds.BadText, (scalars.BadText, refl, h))
  told_fault scalars.BadNumber h = (kinds.BadNumber, (scalars.BadNumber, refl, h))
  told_fault scalars.OutOfRange h = (kinds.OutOfRange, (scalars.OutOfRange, refl, h))
  told_fault scalars.BadEnum h = (kinds.BadEnum, (scalars.BadEnum, refl, h))
  told_fault scalars.NotUtf8 h = (kinds.NotUtf8, (scalars.NotUtf8, refl, h))
  told_fault scalars.NoMemory h = absurd (each.memory types kind text h)

  each_item : ((i : ItemLayer) × IsLeafText types kind text i) ⊎ ((k : ParameterKind) × IsTextFault types kind text k)
  each_item = by_read (each.read types kind text)
    where
      by_read : IsReadLeaf types kind text
          → ((i : ItemLayer) × IsLeafText types kind text i) ⊎ ((k : ParameterKind) × IsTextFault types kind text k)
      by_read (inl h) = inl h
      by_read (inr w) = inr (told_fault w.0 w.1)

module _ (read : EachIsRead) (s : QueryScope) where
  -- a parameter sets its field or is at fault
  each_parameter : (earlier : List Assignment) (name text : List ℕ)
      → ((a : Assignment) × Assigns s earlier name text a) ⊎ ((k : ParameterKind) × IsAtFault s earlier name text k)
  each_parameter earlier name text = by_place (judged_in s (targets_of earlier) name) refl
    where
      by_place : (r : Judging) → judged_in s (targets_of earlier) name ≡ r
          → ((a : Assignment) × Assigns s earlier name text a)
          ⊎ ((k : ParameterKind) × IsAtFault s earlier name text k)
      by_place (Err k) e = inr (k, inl e)
      by_place (Ok t) e = by_value (each_item read s.types t.kind text)
        where
          by_value : (((i : ItemLayer) × IsLeafText s.types t.kind text i)
              ⊎ ((k : ParameterKind) × IsTextFault s.types t.kind text k))
              → ((a : Assignment) × Assigns s earlier name text a)
              ⊎ ((k : ParameterKind) × IsAtFault s earlier name text k)
          by_value (inl h) =
              inl (
                record { target = t; item = roll-Item h.0 },
                record {
                  place = e;
                  means = subst (IsLeafText s.types t.kind text) (sym (out-roll-Item h.0)) h.1;
                },
              )
          by_value (inr w) = inr (w.0, inr (record { target = t; place = e; wrong = w.1 }))

  abbrev HasBehind : List Assignment → List EncodedParameter → Type 0
  HasBehind earlier ps =
      (r : Result (List Setting) QueryFault) × IsReadBehind s earlier ps r × (r ≢ Err NoMemory)

  ok_told : (settings : List Setting)
      → ◌≡◌ {A = Result (List Setting) QueryFault} (Ok settings) (Err NoMemory) → ⊥
  ok_told settings e = cc e

  fault_told : (n : ℕ) (k : ParameterKind)
      → ◌≡◌ {A = Result (List Setting) QueryFault} (Err (Parameter n k)) (Err NoMemory) → ⊥
  fault_told n k e = let same : Parameter n k ≡ NoMemory = cc e in cc same

  each_step : (earlier : List Assignment) (p : EncodedParameter) (ps : List EncodedParameter)
      → ((a : Assignment) → HasBehind (earlier ++ a ∷ []) ps)
      → (((a : Assignment) × Assigns s earlier (decode p.name) (decode p.value) a)
      ⊎ ((k : ParameterKind) × IsAtFault s earlier (decode p.name) (decode p.value) k))
      → HasBehind earlier (p ∷ ps)
  each_step earlier p ps next (inl a) =
      let r = next a.0 in (r.0, inl (a.0, a.1, r.1), r.2)
  each_step earlier p ps next (inr f) =
      (Err (Parameter p.number f.0), inr (f.0, f.1, refl), fault_told p.number f.0)

  each_behind : (earlier : List Assignment) (ps : List EncodedParameter) → HasBehind earlier ps
  each_behind earlier [] = (Ok (settings_of earlier), refl, ok_told (settings_of earlier))
  each_behind earlier (p ∷ ps) =
      each_step earlier p ps (λ a. each_behind (earlier ++ a ∷ []) ps)
      (each_parameter earlier (decode p.name) (decode p.value))

  reading_behind : (ignore : List (List ℕ)) (query : List ℕ) (r : Result (List Setting) QueryFault)
      → IsReadBehind s [] (counted ignore query) r → IsQueryReading s ignore query r
  reading_behind ignore query (Ok settings) h = h
  reading_behind ignore query (Err (Parameter m k)) h = h
  reading_behind ignore query (Err NoMemory) h = tt

  -- each query is read
  pub each_query : (ignore : List (List ℕ)) (query : List ℕ) → HasReading s ignore query
  each_query ignore query =
      let h = each_behind [] (counted ignore query) in
      record { reading = h.0; is = reading_behind ignore query h.0 h.1; memory = h.2 }

-- ---- the first fault

module _ (s : QueryScope) (n : ℕ) (k : ParameterKind) where
  -- behind assignments the first parameter at fault has this number
  record FailsBehind (earlier : List Assignment) (ps : List EncodedParameter) : Type 0 where
    before : List EncodedParameter
    parameter : EncodedParameter
    behind : List EncodedParameter
    parameters : ps ≡ before ++ parameter ∷ behind
    number : n ≡ parameter.number
    made : List Assignment
    set : AreSetBehind s earlier before made
    fault : IsAtFault s made (decode parameter.name) (decode parameter.value) k

  abbrev Failure : Type 0
  Failure = Result (List Setting) QueryFault

  fails_behind : (earlier : List Assignment) (ps : List EncodedParameter)
      → IsReadBehind s earlier ps (Err (Parameter n k)) → FailsBehind earlier ps
  fails_behind earlier [] h =
      let e : ◌≡◌ {A = Failure} (Err (Parameter n k)) (Ok (settings_of earlier)) = h in absurd (cc e)
  fails_behind earlier (p ∷ ps) (inl a) = later (fails_behind (earlier ++ a.0 ∷ []) ps a.2)
    where
      later : FailsBehind (earlier ++ a.0 ∷ []) ps → FailsBehind earlier (p ∷ ps)
      later f = record {
        before = p ∷ f.before;
        parameter = f.parameter;
        behind = f.behind;
        parameters = ap (λ qs. p ∷ qs) f.parameters;
        number = f.number;
        made = f.made;
        set = (a.0, a.1, f.set);
        fault = f.fault;
      }
  fails_behind earlier (p ∷ ps) (inr f) =
      let e : ◌≡◌ {A = Failure} (Err (Parameter n k)) (Err (Parameter p.number f.0)) = f.2 in
      let same : Parameter n k ≡ Parameter p.number f.0 = cc e in
      let number : n ≡ p.number = cc same in
      let kind : k ≡ f.0 = cc same in
      record {
        before = [];
        parameter = p;
        behind = ps;
        parameters = refl;
        number = number;
        made = earlier;
        set = refl;
        fault = subst (IsAtFault s earlier (decode p.name) (decode p.value)) (sym kind) f.1;
      }

  pub first_fault : (ps : List EncodedParameter) → IsReadBehind s [] ps (Err (Parameter n k)) → FailsFirst s ps n k
  first_fault ps h =
      let f = fails_behind [] ps h in
      record {
        before = f.before;
        parameter = f.parameter;
        behind = f.behind;
        parameters = f.parameters;
        number = f.number;
        made = f.made;
        set = f.set;
        fault = f.fault;
      }
