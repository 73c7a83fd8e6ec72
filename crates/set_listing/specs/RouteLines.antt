-- What `check` and `routes` print of a linked API.
use Rattle.std.specs.Prelude.{◌≡◌, ◌++◌, ℕ, List, [], ◌∷◌, length, codes, decimal, Option, Some, None, slice_get}
use Rattle.http_rules.specs.Template.{joined}
use Rattle.http_rules.specs.TemplateText.{template_text}
use Rattle.http_rules.specs.declared.template.Binding.{Binding}
use Rattle.http_rules.specs.declared.template.Body.{Body}
use Rattle.http_rules.specs.declared.template.Body.TheVariants.{Nothing, Whole, Part}
use Rattle.linked_api.specs.declared.api.Api.{Api}
use Rattle.linked_api.specs.declared.api.MethodInfo.{MethodInfo}
use Rattle.message_types.specs.Types.{field_in, fields_of}
use Rattle.message_types.specs.declared.fields.Field.{Field}

-- what `check` prints: the number of bindings
abbrev pub check_text : Api → List ℕ
check_text api = codes "bindings " ++ (decimal (length api.bindings) ++ codes "\n")

-- a text is the proto name of the field of a number
pub record IsFieldName (fs : List Field) (number : ℕ) (text : List ℕ) : Type 0 where
  pub field : Field
  pub field_is : field_in fs number ≡ Some field
  pub named : text ≡ field.name

-- how a body is printed: the whole message by `*`, a field by its name, and no body by `-`
abbrev pub IsBodyText : List Field → Body → List ℕ → Type 0
IsBodyText fs Nothing text = text ≡ codes "-"
IsBodyText fs Whole text = text ≡ codes "*"
IsBodyText fs (Part number) text = IsFieldName fs number text

-- how a response is printed: a field by its name, and the whole message by `-`
abbrev pub IsResponseText : List Field → Option ℕ → List ℕ → Type 0
IsResponseText fs None text = text ≡ codes "-"
IsResponseText fs (Some number) text = IsFieldName fs number text

-- the words of a binding's line: its HTTP method, its template with each variable as `{path=segments}`, the gRPC path
-- of its method, its body and its response
abbrev pub route_words : Binding → MethodInfo → List ℕ → List ℕ → List (List ℕ)
route_words b method body response = b.method ∷ template_text b.template ∷ method.path ∷ body ∷ response ∷ []

-- the line of a binding: its words with spaces between them. A body is a field of the input of the binding's method,
-- a response one of its output
pub record IsRouteLine (api : Api) (b : Binding) (line : List ℕ) : Type 0 where
  pub method : MethodInfo
  pub method_is : slice_get api.methods b.call ≡ Some method
  pub body : List ℕ
  pub body_is : IsBodyText (fields_of api.types method.input) b.body body
  pub response : List ℕ
  pub response_is : IsResponseText (fields_of api.types method.output) b.response response
  pub written : line ≡ joined 32 (route_words b method body response) ++ codes "\n"

-- the lines of bindings, in order
abbrev pub AreRouteLines : Api → List Binding → List ℕ → Type 0
AreRouteLines api [] text = text ≡ []
AreRouteLines api (b ∷ bs) text =
    (line : List ℕ) × (more : List ℕ) × IsRouteLine api b line × AreRouteLines api bs more × (text ≡ line ++ more)

-- what `routes` prints: the lines of all bindings of an API
abbrev pub IsRoutesText : Api → List ℕ → Type 0
IsRoutesText api text = AreRouteLines api api.bindings text
