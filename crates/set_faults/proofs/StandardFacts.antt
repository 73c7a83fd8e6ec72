-- Worked examples: the faults of small sets and of patterns, computed.
use Rattle.std.proofs.Common.{◌≡◌, ℕ, List, [], ◌∷◌, false, pos, refl}
use Rattle.std.specs.Prelude.{codes, decimal, replicate, None, Some}
use Rattle.std.specs.List.{flat_map}
use Rattle.descriptors.specs.declared.file_set.FileInfo.{FileInfo}
use Rattle.descriptors.specs.declared.file_set.PatternInfo.TheVariants.{Custom, Get}
use Rattle.descriptors.specs.declared.file_set.RpcInfo.{RpcInfo}
use Rattle.set_faults.specs.MethodFaults.{pattern_faults}
use Rattle.set_faults.specs.SetFaults.{faults}
use Rattle.set_faults.specs.declared.fault.LinkFault.TheVariants.{At}
use Rattle.set_faults.specs.declared.fault.LinkKind.TheVariants.{BadMethod, DoubleName, NoRoute, TemplateAt}

-- a method without an annotation
abbrev rpc : RpcInfo
rpc = record {
  name = codes "Get";
  input_type = codes ".p.M";
  output_type = codes ".p.M";
  http = None;
  client_streaming = false;
  server_streaming = false;
}

-- a file of this name with a service of that name
abbrev file : List ℕ → List ℕ → FileInfo
file name service = record {
  name = name;
  «package» = codes "p";
  message_type = [];
  enum_type = [];
  service = record { name = service; method = rpc ∷ [] } ∷ [];
  extension = [];
  syntax = codes "proto3";
  edition = pos 0;
}

-- files of one name, and services of one name, are doubled; then no method has an annotation
pub two_doubled : faults (record { files = file (codes "a") (codes "S") ∷ file (codes "a") (codes "S") ∷ [] })
    ≡ At DoubleName (codes "a") [] ∷ At DoubleName (codes "p.S") [] ∷ At NoRoute (codes "set") [] ∷ []
two_doubled = refl

-- a file may have the name of a service
pub names_of_two_spaces : faults (record { files = file (codes "p.S") (codes "S") ∷ [] }) ≡ At NoRoute (codes "set") [] ∷ []
names_of_two_spaces = refl

-- a gRPC path
abbrev path : List ℕ
path = codes "/p.S/Get"

-- a text of so many segments
abbrev segments : ℕ → List ℕ
segments n = flat_map {X = ℕ} (λ k. codes "/a") (replicate n 0)

-- a text that is no template is told with its offset in decimal
pub braces_in_braces : pattern_faults path (Some (Get (codes "/v1/{a=x/{b}}"))) ≡ At TemplateAt path (decimal 9) ∷ []
braces_in_braces = refl

-- a template of 65 segments is one of too many
pub many_segments : pattern_faults path (Some (Get (segments 65))) ≡ At TemplateAt path (codes "many") ∷ []
many_segments = refl

-- a template has no fault, also at 64 segments
pub few_segments : pattern_faults path (Some (Get (segments 64))) ≡ []
few_segments = refl

-- a kind of 33 bytes
abbrev long_kind : List ℕ
long_kind = replicate 33 65

-- the kind of a pattern is judged before its template
pub kind_before_template : pattern_faults path (Some (Custom long_kind (codes "v1"))) ≡ At BadMethod path long_kind ∷ At TemplateAt path (decimal 0) ∷ []
kind_before_template = refl
