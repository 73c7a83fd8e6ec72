-- The methods of a set that have an annotation, and their rules (google/api/http.proto).
use Rattle.std.specs.Prelude.{◌++◌, ℕ, Bool, List, [], ◌∷◌, codes, Option, Some, None}
use Rattle.std.specs.List.{flat_map}
use Rattle.descriptors.specs.declared.file_set.FileInfo.{FileInfo}
use Rattle.descriptors.specs.declared.file_set.FileSet.{FileSet}
use Rattle.descriptors.specs.declared.file_set.HttpInfo.{HttpInfo, out-HttpInfo}
use Rattle.descriptors.specs.declared.file_set.PatternInfo.{PatternInfo}
use Rattle.descriptors.specs.declared.file_set.PatternInfo.TheVariants.{Get, Put, Post, Delete, Patch, Custom}
use Rattle.descriptors.specs.declared.file_set.RpcInfo.{RpcInfo}
use Rattle.descriptors.specs.declared.file_set.ServiceInfo.{ServiceInfo}
use Rattle.descriptor_pool.specs.DeclaredNames.{in_scope}

-- a method with an annotation: its gRPC path, the type names of its input and output, its rule, and which
-- sides stream
pub record BoundMethod : Type 0 where
  pub path : List ℕ
  pub input : List ℕ
  pub output : List ℕ
  pub rule : HttpInfo
  pub client_streams : Bool
  pub server_streams : Bool

-- the path of a method (gRPC over HTTP/2, "Path"): a slash, the service's full name, a slash, the method's name
abbrev pub grpc_path : List ℕ → List ℕ → List ℕ → List ℕ
grpc_path scope service method = 47 ∷ (in_scope scope service ++ 47 ∷ method)

-- a method of this path, where it has an annotation
abbrev pub with_rule : List ℕ → RpcInfo → Option HttpInfo → List BoundMethod
with_rule path m None = []
with_rule path m (Some rule) = record {
  path = path;
  input = m.input_type;
  output = m.output_type;
  rule = rule;
  client_streams = m.client_streaming;
  server_streams = m.server_streaming;
} ∷ []

-- the methods of a service that have an annotation, in order
abbrev pub service_methods : List ℕ → ServiceInfo → List BoundMethod
service_methods scope s = flat_map (λ (m : RpcInfo). with_rule (grpc_path scope s.name m.name) m m.http) s.method

-- the methods of a file that have an annotation, in order
abbrev pub file_methods : FileInfo → List BoundMethod
file_methods f = flat_map (service_methods f.«package») f.service

-- those of a set, in the order of files, services and declarations
abbrev pub bound_methods : FileSet → List BoundMethod
bound_methods set = flat_map file_methods set.files

-- the additional rules of a rule
abbrev pub additional_rules : HttpInfo → List HttpInfo
additional_rules rule = (out-HttpInfo rule).additional_bindings

-- the bindings of a method: its rule and then the additional ones
abbrev pub method_rules : BoundMethod → List HttpInfo
method_rules m = m.rule ∷ additional_rules m.rule

-- the bindings of methods, in order
abbrev pub all_rules : List BoundMethod → List HttpInfo
all_rules ms = flat_map method_rules ms

-- the HTTP method of a pattern
abbrev pub http_method : PatternInfo → List ℕ
http_method (Get text) = codes "GET"
http_method (Put text) = codes "PUT"
http_method (Post text) = codes "POST"
http_method (Delete text) = codes "DELETE"
http_method (Patch text) = codes "PATCH"
http_method (Custom kind text) = kind

-- the HTTP method of a rule's pattern, where it has one
abbrev pub pattern_method : Option PatternInfo → List (List ℕ)
pattern_method None = []
pattern_method (Some p) = http_method p ∷ []

-- the HTTP methods of rules, in order; a rule without a pattern has none
abbrev pub rule_methods : List HttpInfo → List (List ℕ)
rule_methods rules = flat_map (λ (rule : HttpInfo). pattern_method (out-HttpInfo rule).pattern) rules
