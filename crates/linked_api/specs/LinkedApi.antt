-- Which APIs are linked: what a server may rest on (descriptor.proto, google/api/http.proto).
use Rattle.std.specs.Prelude.{◌≡◌, ◌<◌, ◌≤◌, ◌^◌, ◌||◌, ◌&&◌, ℕ, Bool, true, false, List, [], ◌∷◌, ◌++◌, length, map, nat_eq, IfSome, IsSome, Some, slice_get}
use Rattle.std.specs.List.{AllByRecursion}
use Rattle.std.specs.Set.{distinct_count}
use Rattle.std.specs.Str.{bytes_eq}
use Rattle.http_rules.specs.Routes.{AreRoutesApart}
use Rattle.http_rules.specs.Template.{IsTemplate}
use Rattle.http_rules.specs.Tokens.{is_method_kind}
use Rattle.http_rules.specs.declared.template.Binding.{Binding}
use Rattle.http_rules.specs.declared.template.Body.{Body}
use Rattle.http_rules.specs.declared.template.Body.TheVariants.{Nothing, Whole, Part}
use Rattle.http_rules.specs.declared.template.Variable.{Variable}
use Rattle.linked_api.specs.FieldPaths.{LeadsToLeaf}
use Rattle.linked_api.specs.declared.api.Api.{Api}
use Rattle.linked_api.specs.declared.api.MethodInfo.{MethodInfo}
use Rattle.message_types.specs.Types.{field_in, fields_of}
use Rattle.message_types.specs.declared.enums.EnumType.{EnumType}
use Rattle.message_types.specs.declared.fields.Field.{Field}
use Rattle.message_types.specs.declared.messages.MessageType.{MessageType}
use Rattle.message_types.specs.declared.messages.TypeId.{TypeId}
use Rattle.message_types.specs.declared.messages.Types.{Types}
use Rattle.schema.specs.Apart.{AreApart}
use Rattle.schema.specs.Soundness.{IsSound}

-- the path of each variable leads from a type to a leaf, by the numbers of its own list
abbrev pub EachLeadsToLeaf : Types → TypeId → List Variable → List (List ℕ) → Type 0
EachLeadsToLeaf types id [] [] = Unit {0}
EachLeadsToLeaf types id [] (p ∷ ps) = ⊥
EachLeadsToLeaf types id (v ∷ vs) [] = ⊥
EachLeadsToLeaf types id (v ∷ vs) (p ∷ ps) = LeadsToLeaf types id v.path p × EachLeadsToLeaf types id vs ps

-- a path is another one, or the beginning of it
abbrev pub begins_path : List ℕ → List ℕ → Bool
begins_path [] q = true
begins_path (n ∷ p) [] = false
begins_path (n ∷ p) (m ∷ q) = nat_eq n m && begins_path p q

-- one of two paths begins the other
abbrev pub overlap : List ℕ → List ℕ → Bool
overlap p q = begins_path p q || begins_path q p

-- a body is nothing, a whole message, or one of these fields
abbrev pub IsBodyOf : List Field → Body → Type 0
IsBodyOf fs Nothing = Unit {0}
IsBodyOf fs Whole = Unit {0}
IsBodyOf fs (Part n) = IsSome (field_in fs n)

-- the types of a method are of these
pub record IsMethodOf (types : Types) (m : MethodInfo) : Type 0 where
  pub input : m.input.0 < length types.messages
  pub output : m.output.0 < length types.messages

-- a binding is one of a method of an API: it has an HTTP method and a template that can be parsed, with a path of
-- the method's input for each variable, none of which begins another, and its body and its response are fields
pub record IsBindingOf (api : Api) (b : Binding) : Type 0 where
  pub call : b.call < length api.methods
  pub method : MethodInfo
  pub method_is : slice_get api.methods b.call ≡ Some method
  pub http_method : is_method_kind b.method ≡ true
  pub template : IsTemplate b.template
  pub paths : EachLeadsToLeaf api.types method.input b.template.variables b.paths
  pub apart : AreApart overlap b.paths
  pub body : IsBodyOf (fields_of api.types method.input) b.body
  pub response : IfSome b.response (λ n. IsSome (field_in (fields_of api.types method.output) n))

-- an API is linked: its types are sound, no two messages or enums have one name, what its methods and bindings name is
-- there, no two bindings are one route, and there are at most 64 HTTP methods and fewer than 2^32 bindings
pub record IsLinked (api : Api) : Type 0 where
  pub types : IsSound api.types
  pub names : AreApart bytes_eq
      (map (λ (m : MessageType). m.name) api.types.messages ++ map (λ (e : EnumType). e.name) api.types.enums)
  pub methods : AllByRecursion (IsMethodOf api.types) api.methods
  pub bindings : AllByRecursion (IsBindingOf api) api.bindings
  pub routes : AreRoutesApart api.bindings
  pub http_methods : distinct_count bytes_eq (map (λ (b : Binding). b.method) api.bindings) ≤ 64
  pub few : length api.bindings < 2 ^ 32
