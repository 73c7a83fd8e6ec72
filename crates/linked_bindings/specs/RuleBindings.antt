-- Which rules have no fault, read without the search for one; and what a binding that is linked of such a rule is.
use Rattle.std.specs.Prelude.{◌≡◌, ◌||◌, ◌⊎◌, ℕ, Bool, List, [], codes, Some, IfSome, IsSome, slice_get}
use Rattle.descriptors.specs.declared.file_set.HttpInfo.{HttpInfo, out-HttpInfo}
use Rattle.http_rules.specs.declared.template.Binding.{Binding}
use Rattle.http_rules.specs.declared.template.Template.{Template}
use Rattle.http_rules.specs.declared.template.Variable.{Variable}
use Rattle.linked_api.specs.LinkedApi.{EachLeadsToLeaf, IsBodyOf, overlap}
use Rattle.linked_api.specs.declared.api.MethodInfo.{MethodInfo}
use Rattle.linked_bindings.specs.BindingFaults.{begins_names}
use Rattle.message_types.specs.Types.{field_in, fields_of}
use Rattle.message_types.specs.declared.fields.Field.{Field}
use Rattle.message_types.specs.declared.messages.Types.{Types}
use Rattle.schema.specs.Apart.{AreApart}

-- the path of one of two variables begins that of the other
abbrev pub paths_overlap : Variable → Variable → Bool
paths_overlap v w = begins_names v.path w.path || begins_names w.path v.path

-- a name is that of a field in a list, be it one value, a list or a map
pub record IsFieldName (fs : List Field) (name : List ℕ) : Type 0 where
  pub index : ℕ
  pub field : Field
  pub field_is : slice_get fs index ≡ Some field
  pub name_is : field.name ≡ name

-- a body is empty, `*`, or the name of a field
abbrev pub IsBodyText : List Field → List ℕ → Type 0
IsBodyText fs body = (body ≡ []) ⊎ ((body ≡ codes "*") ⊎ IsFieldName fs body)

-- a response body is empty, or the name of a field
abbrev pub IsResponseText : List Field → List ℕ → Type 0
IsResponseText fs name = (name ≡ []) ⊎ IsFieldName fs name

-- a rule with a template fits the types of a method: the path of each variable leads from the input to a leaf, none
-- begins another, the body is of the input, and the response body of the output
pub record IsRuleOf (types : Types) (m : MethodInfo) (rule : HttpInfo) (t : Template) : Type 0 where
  pub numbers : List (List ℕ)
  pub paths : EachLeadsToLeaf types m.input t.variables numbers
  pub apart : AreApart paths_overlap t.variables
  pub body : IsBodyText (fields_of types m.input) (out-HttpInfo rule).body
  pub response : IsResponseText (fields_of types m.output) (out-HttpInfo rule).response_body

-- a binding is one of a method, of this index, HTTP method and template: with a path of the method's input for each
-- variable, none of which begins another, and its body and its response are fields
pub record IsBindingWith (types : Types) (m : MethodInfo) (call : ℕ) (method : List ℕ) (t : Template) (b : Binding)
    : Type 0 where
  pub call_is : b.call ≡ call
  pub method_is : b.method ≡ method
  pub template_is : b.template ≡ t
  pub paths : EachLeadsToLeaf types m.input b.template.variables b.paths
  pub apart : AreApart overlap b.paths
  pub body : IsBodyOf (fields_of types m.input) b.body
  pub response : IfSome b.response (λ n. IsSome (field_in (fields_of types m.output) n))
