-- The message of a request (google/api/http.proto, HttpRule): what its body, its query and its path set.
use Rattle.std.specs.Prelude.{◌≡◌, ℕ, [], Some, slice_get}
use Rattle.std.specs.List.{AllByRecursion}
use Rattle.field_binding.specs.Assignments.{Assignments}
use Rattle.field_binding.specs.PathSettings.{IsCall}
use Rattle.field_settings.specs.AppliedSettings.{AreSet, FitsSetting}
use Rattle.http_rules.specs.declared.template.Binding.{Binding}
use Rattle.http_rules.specs.declared.template.Body.TheVariants.{Nothing}
use Rattle.linked_api.specs.declared.api.Api.{Api}
use Rattle.linked_api.specs.declared.api.MethodInfo.{MethodInfo}
use Rattle.schema.specs.Validity.{IsValid}
use Rattle.schema.specs.Value.{slots_of}
use Rattle.schema.specs.declared.value.Value.{Value}

-- the binding of an index has no body
pub record IsBodyless (api : Api) (index : ℕ) : Type 0 where
  pub binding : Binding
  pub binding_is : slice_get api.bindings index ≡ Some binding
  pub body : binding.body ≡ Nothing

-- each setting fits the input of the method that the binding of an index calls
pub record IsOverlayOf (api : Api) (index : ℕ) (a : Assignments) : Type 0 where
  pub binding : Binding
  pub method : MethodInfo
  pub call : IsCall api index binding method
  pub query : AllByRecursion (FitsSetting api.types method.input) a.query
  pub path : AllByRecursion (FitsSetting api.types method.input) a.path

-- the message of a request for the binding of an index, as far as no body counts: what the query sets of the empty
-- message, and then what the path sets of that
pub record IsRequestMessage (api : Api) (index : ℕ) (a : Assignments) (message : Value) : Type 0 where
  pub binding : Binding
  pub method : MethodInfo
  pub call : IsCall api index binding method
  pub empty : Value
  pub nothing : slots_of empty ≡ []
  pub queried : Value
  pub by_query : AreSet api.types method.input a.query empty queried
  pub by_path : AreSet api.types method.input a.path queried message

-- a value is one of the input of the method that the binding of an index calls
pub record IsInput (api : Api) (index : ℕ) (message : Value) : Type 0 where
  pub binding : Binding
  pub method : MethodInfo
  pub call : IsCall api index binding method
  pub valid : IsValid api.types method.input message
