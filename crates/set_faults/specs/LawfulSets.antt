-- What a set without faults is, in the words of what it declares (descriptor.proto, google/api/http.proto, the
-- ProtoJSON guide).
use Rattle.std.specs.Prelude.{◌≡◌, ◌≢◌, ◌≤◌, ℕ, Bool, true, false, List, [], ◌∷◌, length, map, codes, count_by, IsSome, Some, slice_get}
use Rattle.std.specs.List.{AllByRecursion, IsDistinct, flat_map, list_any}
use Rattle.std.specs.Ordering.{int_eq}
use Rattle.std.specs.Set.{distinct_count}
use Rattle.std.specs.Str.{bytes_eq}
use Rattle.descriptors.specs.declared.file_set.FieldInfo.{FieldInfo}
use Rattle.descriptors.specs.declared.file_set.HttpInfo.{HttpInfo, out-HttpInfo}
use Rattle.descriptors.specs.declared.file_set.PatternInfo.{PatternInfo}
use Rattle.http_rules.specs.Template.{IsTemplateText, IsWithinLimits}
use Rattle.http_rules.specs.Tokens.{is_method_kind}
use Rattle.http_rules.specs.declared.template.Template.{Template}
use Rattle.descriptor_pool.specs.DeclaredNames.{Declaration, DeclaredEnum, DeclaredMessage, File, Message, Enum, Service, is_type}
use Rattle.descriptor_pool.specs.DeclaredTypes.{SetTypes, message_named, types_in}
use Rattle.descriptor_pool.specs.FieldTypes.{has_type, value_field}
use Rattle.descriptor_pool.specs.ReachableTypes.{Joined, reachable}
use Rattle.descriptor_pool.specs.SetMethods.{BoundMethod, additional_rules, all_rules, http_method, method_rules, rule_methods}
use Rattle.descriptor_pool.specs.WellKnownTypes.{are_published}
use Rattle.set_faults.specs.KeySteps.{keys_of}
use Rattle.set_faults.specs.MessageFaults.{enum_of, has_extensions, has_lawful_entry, is_field_number, is_lawful_enum, is_lawful_label, is_oneof_index, is_struct, is_type_number}
use Rattle.set_faults.specs.MethodFaults.{pattern_text, rule_template}

-- a type name names an enum of the set, which is not NullValue, and has a value, 0 first, and no name twice
pub record IsLawfulEnumType (types : SetTypes) (type_name : List ℕ) : Type 0 where
  pub enum : DeclaredEnum
  pub enum_is : enum_of types type_name ≡ Some enum
  pub null : bytes_eq enum.name (codes "google.protobuf.NullValue") ≡ false
  pub lawful : is_lawful_enum enum.values ≡ true

-- a type is no group and no floating-point number, and the message or the enum that it names is of the set
pub record IsLawfulType (types : SetTypes) (v : FieldInfo) : Type 0 where
  pub group : has_type 10 v ≡ false
  pub double : has_type 1 v ≡ false
  pub float : has_type 2 v ≡ false
  pub message : has_type 11 v ≡ true → IsSome (message_named types v.type_name)
  pub enum : has_type 14 v ≡ true → IsLawfulEnumType types v.type_name

-- a field of a message has a number and a type that fields can have, a label and a oneof that it can have, and, where
-- it is a map, a key and a value that maps can have
pub record IsLawfulField (types : SetTypes) (m : DeclaredMessage) (f : FieldInfo) : Type 0 where
  pub number : is_field_number f.number ≡ true
  pub type_number : is_type_number f.type_number ≡ true
  pub label : is_lawful_label f ≡ true
  pub oneof_index : is_oneof_index (length m.oneofs) f.oneof_index ≡ true
  pub entry : has_lawful_entry types f ≡ true
  pub value : IsLawfulType types (value_field types f)

-- one key is a name or a JSON name of both fields
abbrev pub shares_key : FieldInfo → FieldInfo → Bool
shares_key f g = list_any (λ key. list_any (bytes_eq key) (keys_of g)) (keys_of f)

-- a message of proto3 that is served: each field is lawful, no two have one number or share a key, it is none of the
-- messages that are left out, and a well-known type has the fields with which it is published
pub record IsLawfulMessage (types : SetTypes) (m : DeclaredMessage) : Type 0 where
  pub syntax : m.syntax ≡ codes "proto3"
  pub any : bytes_eq m.name (codes "google.protobuf.Any") ≡ false
  pub struct : is_struct m.name ≡ false
  pub extensions : has_extensions types m ≡ false
  pub published : are_published m.name m.fields ≡ true
  pub fields : AllByRecursion (IsLawfulField types m) m.fields
  pub numbers : IsDistinct int_eq (map (λ (f : FieldInfo). f.number) m.fields)
  pub keys : IsDistinct shares_key m.fields

-- the message that is reached is so
abbrev pub IsLawfulItem : SetTypes → Joined → Type 0
IsLawfulItem types j = (m : DeclaredMessage) → slice_get types.messages j.message ≡ Some m → IsLawfulMessage types m

-- a rule has a pattern with a method of a binding, whose text means a template within the limits
pub record IsLawfulRule (rule : HttpInfo) : Type 0 where
  pub pattern : PatternInfo
  pub pattern_is : (out-HttpInfo rule).pattern ≡ Some pattern
  pub method : is_method_kind (http_method pattern) ≡ true
  pub template : Template
  pub template_is : rule_template rule ≡ Some template
  pub means : IsTemplateText (pattern_text pattern) template
  pub within : IsWithinLimits template

-- a method names messages of the set, its rules are lawful, and an additional one has no additional rules
pub record IsLawfulMethod (types : SetTypes) (m : BoundMethod) : Type 0 where
  pub input : IsSome (message_named types m.input)
  pub output : IsSome (message_named types m.output)
  pub rules : AllByRecursion IsLawfulRule (method_rules m)
  pub flat : AllByRecursion (λ rule. additional_rules rule ≡ []) (additional_rules m.rule)

-- the name of a file, where a declaration is one
abbrev pub file_name : Declaration → List (List ℕ)
file_name (File name) = name ∷ []
file_name _ = []

-- the full name of a message, an enum or a service, where a declaration is one
abbrev pub full_name : Declaration → List (List ℕ)
full_name (Message m) = m.name ∷ []
full_name (Enum e) = e.name ∷ []
full_name (Service name) = name ∷ []
full_name _ = []

-- a set is of a lawful size, no two files have one name, no two messages, enums and services have one full name, it
-- has a method with an annotation, and its methods and the messages that they reach are lawful
pub record IsLawfulSet (ds : List Declaration) (ms : List BoundMethod) : Type 0 where
  pub few_types : count_by is_type ds ≤ 10000
  pub few_bindings : length (all_rules ms) ≤ 10000
  pub few_methods : distinct_count bytes_eq (rule_methods (all_rules ms)) ≤ 64
  pub files : IsDistinct bytes_eq (flat_map file_name ds)
  pub names : IsDistinct bytes_eq (flat_map full_name ds)
  pub some_method : ms ≢ []
  pub methods : AllByRecursion (IsLawfulMethod (types_in ds)) ms
  pub messages : AllByRecursion (IsLawfulItem (types_in ds)) (reachable (types_in ds) ms)
