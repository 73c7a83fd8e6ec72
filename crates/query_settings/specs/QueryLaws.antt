-- Laws of what is read of a query: it is one thing, and there always is one; of two faults the first counts; the
-- setting of a field that is set has all that is set there.
use Rattle.std.specs.Prelude.{◌≡◌, ◌≢◌, ◌++◌, ℕ, List, [], ◌∷◌, Option, Some, None, Result, Err, if◌then◌else◌}
use Rattle.std.specs.List.{find}
use Rattle.std.specs.Str.{bytes_eq}
use Rattle.field_settings.specs.declared.setting.Setting.{Setting}
use Rattle.form_urlencoded.specs.Form.{decode}
use Rattle.query_parameters.specs.QueryParameters.{EncodedParameter}
use Rattle.query_settings.specs.ParameterFaults.{QueryScope}
use Rattle.query_settings.specs.QuerySettings.{Assignment, Assigns, IsAtFault, IsQueryReading, counted, path_of, setting_of}
use Rattle.query_settings.specs.declared.fault.ParameterKind.{ParameterKind}
use Rattle.query_settings.specs.declared.fault.QueryFault.{QueryFault}
use Rattle.query_settings.specs.declared.fault.QueryFault.TheVariants.{NoMemory}

-- there is a reading of a query that is not out of memory
pub record HasReading (s : QueryScope) (ignore : List (List ℕ)) (query : List ℕ) : Type 0 where
  pub reading : Result (List Setting) QueryFault
  pub is : IsQueryReading s ignore query reading
  pub memory : reading ≢ Err NoMemory

-- each of these parameters sets its field, behind those that set `earlier`; together they set `made`
abbrev pub AreSetBehind : QueryScope → List Assignment → List EncodedParameter → List Assignment → Type 0
AreSetBehind s earlier [] made = made ≡ earlier
AreSetBehind s earlier (p ∷ ps) made =
    (a : Assignment) × Assigns s earlier (decode p.name) (decode p.value) a
    × AreSetBehind s (earlier ++ a ∷ []) ps made

-- the first parameter at fault has this number: each before it sets its field
pub record FailsFirst (s : QueryScope) (ps : List EncodedParameter) (n : ℕ) (k : ParameterKind) : Type 0 where
  pub before : List EncodedParameter
  pub parameter : EncodedParameter
  pub behind : List EncodedParameter
  pub parameters : ps ≡ before ++ parameter ∷ behind
  pub number : n ≡ parameter.number
  pub made : List Assignment
  pub set : AreSetBehind s [] before made
  pub fault : IsAtFault s made (decode parameter.name) (decode parameter.value) k

-- what is to be held at a path: the setting by the first assignment of its field and all that come after, if there is
-- one
abbrev pub setting_made : List Assignment → List ℕ → Option Setting
setting_made [] path = None
setting_made (a ∷ later) path = if bytes_eq path (path_of a) then Some (setting_of a later) else setting_made later path

-- the setting of a path
abbrev pub setting_at : List Setting → List ℕ → Option Setting
setting_at settings path = find (λ (s : Setting). bytes_eq path s.path) settings
