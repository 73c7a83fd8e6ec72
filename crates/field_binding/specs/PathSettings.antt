-- What the path of a request sets of its message (google/api/http.proto, HttpRule and path template syntax): each
-- variable of the template sets the field at the end of its path to what its text means.
use Rattle.std.specs.Prelude.{◌≡◌, ◌≢◌, ◌<◌, ◌≤◌, ◌+◌, ℕ, List, [], length, Option, Some, Result, Ok, Err, option_map, slice_get, slice_range}
use Rattle.std.specs.List.{AllByRecursion}
use Rattle.field_binding.specs.Assignments.{Assignments}
use Rattle.field_binding.specs.declared.fault.BindFault.{BindFault}
use Rattle.field_binding.specs.declared.fault.BindFault.TheVariants.{Path, NoMemory}
use Rattle.field_binding.specs.declared.fault.ValueKind.{ValueKind}
use Rattle.field_binding.specs.declared.fault.ValueKind.TheVariants.{BadText, BadNumber, OutOfRange, BadEnum, NotUtf8, TooDeep}
use Rattle.field_settings.specs.declared.setting.Setting.{Setting}
use Rattle.http_rules.specs.PercentDecoding.{captured}
use Rattle.http_rules.specs.declared.template.Binding.{Binding}
use Rattle.linked_api.specs.NumberPaths.{last_field}
use Rattle.linked_api.specs.declared.api.Api.{Api}
use Rattle.linked_api.specs.declared.api.MethodInfo.{MethodInfo}
use Rattle.message_types.specs.declared.fields.Field.{Field}
use Rattle.message_types.specs.declared.fields.Kind.TheVariants.{One as OneOf}
use Rattle.message_types.specs.declared.fields.Scalar.{Scalar}
use Rattle.message_types.specs.declared.fields.Scalar.TheVariants.{Bytes}
use Rattle.message_types.specs.declared.messages.TypeId.{TypeId}
use Rattle.message_types.specs.declared.messages.Types.{Types}
use Rattle.path_router.specs.declared.captures.Span.{Span}
use Rattle.scalar_texts.specs.ScalarTexts.{IsScalarText, IsScalarTextFault}
use Rattle.scalar_texts.specs.declared.fault.ScalarFault.{ScalarFault}
use Rattle.scalar_texts.specs.declared.fault.ScalarFault.TheVariants as faults
use Rattle.schema.specs.declared.value.Item.{Item, out-Item}
use Rattle.schema.specs.declared.value.Slot.{One}

-- a binding of an API, by its index, and the method that it calls
pub record IsCall (api : Api) (index : ℕ) (binding : Binding) (method : MethodInfo) : Type 0 where
  pub binding_is : slice_get api.bindings index ≡ Some binding
  pub method_is : slice_get api.methods binding.call ≡ Some method

-- the spans of a path are those of the variables of the binding of an index: one for each, inside the path
pub record AreCapturesOf (api : Api) (index : ℕ) (path : List ℕ) (spans : List Span) : Type 0 where
  pub binding : Binding
  pub binding_is : slice_get api.bindings index ≡ Some binding
  pub one_each : length spans ≡ length binding.template.variables
  pub inside : AllByRecursion (λ (s : Span). (s.from ≤ s.to) × (s.to ≤ length path)) spans

-- numbers lead from a type to a field of this scalar kind
pub record EndsAt (types : Types) (id : TypeId) (numbers : List ℕ) (scalar : Scalar) : Type 0 where
  pub field : Field
  pub field_is : last_field types id numbers ≡ Some field
  pub kind_is : field.kind ≡ OneOf scalar

-- numbers lead from a type to a field of a scalar kind other than bytes
pub record EndsAtScalar (types : Types) (id : TypeId) (numbers : List ℕ) : Type 0 where
  pub scalar : Scalar
  pub ends : EndsAt types id numbers scalar
  pub not_bytes : scalar ≢ Bytes

-- each variable of the binding of an index ends at a scalar other than bytes
pub record BindsScalars (api : Api) (index : ℕ) : Type 0 where
  pub binding : Binding
  pub method : MethodInfo
  pub call : IsCall api index binding method
  pub each : AllByRecursion (EndsAtScalar api.types method.input) binding.paths

-- the text of the variable of an index, counted from 0: what its span has of the path, decoded
abbrev pub text_at : Binding → List ℕ → List Span → ℕ → Option (List ℕ)
text_at binding path spans i =
    option_map (λ (s : Span). captured binding.template i (slice_range path s.from s.to)) (slice_get spans i)

-- a variable with these numbers on its path and this text sets the field at the end of the path to what the text
-- means; a message has at most 100 levels
pub record MeansSetting (types : Types) (input : TypeId) (numbers text : List ℕ) (setting : Setting) : Type 0 where
  pub shallow : length numbers ≤ 100
  pub scalar : Scalar
  pub ends : EndsAt types input numbers scalar
  pub item : Item
  pub means : IsScalarText types scalar text (out-Item item)
  pub setting_is : setting ≡ record { path = numbers; slot = One item }

-- a variable with these numbers on its path has a text that means nothing there, for this reason
pub record HasTextFault (types : Types) (input : TypeId) (numbers text : List ℕ) (fault : ScalarFault) : Type 0 where
  pub shallow : length numbers ≤ 100
  pub scalar : Scalar
  pub ends : EndsAt types input numbers scalar
  pub wrong : IsScalarTextFault types scalar text fault

-- what is wrong with a variable: its path has over 100 numbers, or else its text means nothing there
abbrev pub IsValueFault : Types → TypeId → List ℕ → List ℕ → ValueKind → Type 0
IsValueFault types input numbers text TooDeep = 100 < length numbers
IsValueFault types input numbers text BadText = HasTextFault types input numbers text faults.BadText
IsValueFault types input numbers text BadNumber = HasTextFault types input numbers text faults.BadNumber
IsValueFault types input numbers text OutOfRange = HasTextFault types input numbers text faults.OutOfRange
IsValueFault types input numbers text BadEnum = HasTextFault types input numbers text faults.BadEnum
IsValueFault types input numbers text NotUtf8 = HasTextFault types input numbers text faults.NotUtf8

-- the variable of an index, counted from 0, has these numbers on its path and this text
pub record IsVariable (binding : Binding) (path : List ℕ) (spans : List Span) (i : ℕ) (numbers text : List ℕ) : Type 0
  where
    pub there : i < length binding.template.variables
    pub numbers_are : slice_get binding.paths i ≡ Some numbers
    pub text_is : text_at binding path spans i ≡ Some text

-- the variable of an index sets this
pub record SetsAt (types : Types) (input : TypeId) (binding : Binding) (path : List ℕ) (spans : List Span) (i : ℕ)
    (setting : Setting) : Type 0 where
  pub numbers : List ℕ
  pub text : List ℕ
  pub variable : IsVariable binding path spans i numbers text
  pub sets : MeansSetting types input numbers text setting

-- the variable of an index is at fault
pub record FailsAt (types : Types) (input : TypeId) (binding : Binding) (path : List ℕ) (spans : List Span) (i : ℕ)
    (kind : ValueKind) : Type 0 where
  pub numbers : List ℕ
  pub text : List ℕ
  pub variable : IsVariable binding path spans i numbers text
  pub wrong : IsValueFault types input numbers text kind

-- a path is bound: each variable sets its field, in order, and no query sets anything
pub record IsBound (api : Api) (index : ℕ) (path : List ℕ) (spans : List Span) (a : Assignments) : Type 0 where
  pub binding : Binding
  pub method : MethodInfo
  pub call : IsCall api index binding method
  pub query : a.query ≡ []
  pub one_each : length a.path ≡ length binding.template.variables
  pub each : (i : ℕ) (s : Setting) → slice_get a.path i ≡ Some s
      → SetsAt api.types method.input binding path spans i s

-- a path is refused: the variable of this number, counted from 1, is at fault, and each before it sets its field
pub record IsRefused (api : Api) (index : ℕ) (path : List ℕ) (spans : List Span) (n : ℕ) (kind : ValueKind) : Type 0
  where
    pub binding : Binding
    pub method : MethodInfo
    pub call : IsCall api index binding method
    pub before : ℕ
    pub number : n ≡ before + 1
    pub fails : FailsAt api.types method.input binding path spans before kind
    pub first : (i : ℕ) → i < before → (s : Setting) × SetsAt api.types method.input binding path spans i s

-- what is bound of a path whose variables have these spans, or why it is refused; out of memory is free
abbrev pub IsPathBinding : Api → ℕ → List ℕ → List Span → Result Assignments BindFault → Type 0
IsPathBinding api index path spans (Ok a) = IsBound api index path spans a
IsPathBinding api index path spans (Err (Path n kind)) = IsRefused api index path spans n kind
IsPathBinding api index path spans (Err NoMemory) = Unit {0}
