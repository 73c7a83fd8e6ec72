-- Reading the variables of a binding one by one. These definitions stand for the crate's own proofs: no public clause
-- cites them.
use Rattle.std.specs.Prelude.{◌≡◌, ◌≤◌, ◌<◌, ◌+◌, ℕ, List, length, Result, Ok, Err, slice_get, Some}
use Rattle.std.specs.List.{AllByRecursion}
use Rattle.field_binding.specs.PathSettings.{EndsAtScalar, FailsAt, IsValueFault, MeansSetting, SetsAt}
use Rattle.field_binding.specs.declared.fault.BindFault.{BindFault}
use Rattle.field_binding.specs.declared.fault.BindFault.TheVariants.{Path, NoMemory}
use Rattle.field_binding.specs.declared.fault.ValueFault.{ValueFault}
use Rattle.field_binding.specs.declared.fault.ValueFault.TheVariants.{Wrong, NoMemory as no_value_memory}
use Rattle.field_binding.specs.declared.fault.ValueKind.{ValueKind}
use Rattle.field_settings.specs.declared.setting.Setting.{Setting}
use Rattle.http_rules.specs.Template.{IsTemplate}
use Rattle.http_rules.specs.declared.template.Binding.{Binding}
use Rattle.message_types.specs.declared.messages.TypeId.{TypeId}
use Rattle.message_types.specs.declared.messages.Types.{Types}
use Rattle.path_router.specs.declared.captures.Span.{Span}

-- spans lie inside a path
abbrev pub LieInside : List ℕ → List Span → Type 0
LieInside path spans = AllByRecursion (λ (s : Span). (s.from ≤ s.to) × (s.to ≤ length path)) spans

-- the variables of a binding can be read of a path: each has its numbers and its span, and ends at a scalar
pub record AreReadable (types : Types) (input : TypeId) (binding : Binding) (path : List ℕ) (spans : List Span) : Type 0
  where
    pub can_be_parsed : IsTemplate binding.template
    pub one_path_each : length binding.paths ≡ length binding.template.variables
    pub one_span_each : length spans ≡ length binding.template.variables
    pub inside : LieInside path spans
    pub ends : AllByRecursion (EndsAtScalar types input) binding.paths

-- what is read of a variable with these numbers and this text
abbrev pub IsValueReading : Types → TypeId → List ℕ → List ℕ → Result Setting ValueFault → Type 0
IsValueReading types input numbers text (Ok s) = MeansSetting types input numbers text s
IsValueReading types input numbers text (Err (Wrong kind)) = IsValueFault types input numbers text kind
IsValueReading types input numbers text (Err no_value_memory) = Unit {0}

-- what is read of the variable of an index
abbrev pub IsVariableReading : Types → TypeId → Binding → List ℕ → List Span → ℕ → Result Setting BindFault → Type 0
IsVariableReading types input binding path spans i (Ok s) = SetsAt types input binding path spans i s
IsVariableReading types input binding path spans i (Err (Path n kind)) =
    (n ≡ i + 1) × FailsAt types input binding path spans i kind
IsVariableReading types input binding path spans i (Err NoMemory) = Unit {0}

-- settings are those of the first variables, in order
abbrev pub AreSetInOrder : Types → TypeId → Binding → List ℕ → List Span → List Setting → Type 0
AreSetInOrder types input binding path spans settings =
    (i : ℕ) (s : Setting) → slice_get settings i ≡ Some s → SetsAt types input binding path spans i s

-- the variable of an index is the first at fault
pub record FailsFirst (types : Types) (input : TypeId) (binding : Binding) (path : List ℕ) (spans : List Span)
    (n : ℕ) (kind : ValueKind) : Type 0 where
  pub before : ℕ
  pub number : n ≡ before + 1
  pub fails : FailsAt types input binding path spans before kind
  pub first : (i : ℕ) → i < before → (s : Setting) × SetsAt types input binding path spans i s

-- what is read of all variables
abbrev pub AreRead : Types → TypeId → Binding → List ℕ → List Span → Result (List Setting) BindFault → Type 0
AreRead types input binding path spans (Ok settings) =
    (length settings ≡ length binding.template.variables) × AreSetInOrder types input binding path spans settings
AreRead types input binding path spans (Err (Path n kind)) = FailsFirst types input binding path spans n kind
AreRead types input binding path spans (Err NoMemory) = Unit {0}
