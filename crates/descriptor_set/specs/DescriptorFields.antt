-- What a descriptor set declares: for each message of descriptor.proto and google/api/http.proto what its listed
-- fields hold, by its value. Messages and rules nest in at most 100 levels, since decoding reads no deeper ones.
use Rattle.std.specs.Prelude.{ℕ, zero, suc, Bool, false, List, [], Option, None, map, option_map, option_and_then, unwrap_or}
use Rattle.std.specs.Option.{option_or}
use Rattle.message_types.specs.declared.enums.EnumValue.{EnumValue}
use Rattle.schema.specs.declared.value.Value.{Value}
use Rattle.descriptor_set.specs.FieldContents.{text_at, text_or_empty, number_at, number_or_zero, truth_at, truth_or_false, message_at, messages_at}
use Rattle.descriptors.specs.declared.file_set.EnumInfo.{EnumInfo}
use Rattle.descriptors.specs.declared.file_set.FieldInfo.{FieldInfo}
use Rattle.descriptors.specs.declared.file_set.FileInfo.{FileInfo}
use Rattle.descriptors.specs.declared.file_set.FileSet.{FileSet}
use Rattle.descriptors.specs.declared.file_set.HttpInfo.{HttpInfo, roll-HttpInfo}
use Rattle.descriptors.specs.declared.file_set.MessageInfo.{MessageInfo, roll-MessageInfo}
use Rattle.descriptors.specs.declared.file_set.PatternInfo.{PatternInfo}
use Rattle.descriptors.specs.declared.file_set.PatternInfo.TheVariants.{Get, Put, Post, Delete, Patch, Custom}
use Rattle.descriptors.specs.declared.file_set.RpcInfo.{RpcInfo}
use Rattle.descriptors.specs.declared.file_set.ServiceInfo.{ServiceInfo}

-- OneofDescriptorProto: name 1
abbrev pub oneof_name : Value → List ℕ
oneof_name v = text_or_empty v 1

-- EnumValueDescriptorProto: name 1, number 2
abbrev pub enum_value : Value → EnumValue
enum_value v = record { name = text_or_empty v 1; number = number_or_zero v 2 }

-- EnumDescriptorProto: name 1, value 2
abbrev pub enum_info : Value → EnumInfo
enum_info v = record { name = text_or_empty v 1; value = map enum_value (messages_at v 2) }

-- FieldDescriptorProto: name 1, extendee 2, number 3, label 4, type 5, type_name 6, options 8 (FieldOptions:
-- packed 2), oneof_index 9, json_name 10, proto3_optional 17
abbrev pub field_info : Value → FieldInfo
field_info v = record {
  name = text_or_empty v 1;
  extendee = text_or_empty v 2;
  number = number_or_zero v 3;
  label = number_or_zero v 4;
  type_number = number_or_zero v 5;
  type_name = text_or_empty v 6;
  packed = option_and_then (λ options. truth_at options 2) (message_at v 8);
  oneof_index = number_at v 9;
  json_name = text_at v 10;
  proto3_optional = truth_or_false v 17;
}

-- MessageOptions: message_set_wire_format 1, map_entry 7
abbrev pub message_option : ℕ → Value → Bool
message_option n v = unwrap_or (option_map (λ options. truth_or_false options n) (message_at v 7)) false

-- DescriptorProto: name 1, field 2, nested_type 3, enum_type 4, extension 6, options 7, oneof_decl 8
abbrev pub message_by : (Value → MessageInfo) → Value → MessageInfo
message_by nested v = roll-MessageInfo (record {
  name = text_or_empty v 1;
  field = map field_info (messages_at v 2);
  nested_type = map nested (messages_at v 3);
  enum_type = map enum_info (messages_at v 4);
  extension = map field_info (messages_at v 6);
  message_set_wire_format = message_option 1 v;
  map_entry = message_option 7 v;
  oneof_decl = map oneof_name (messages_at v 8);
})

-- a message that declares nothing
abbrev pub no_message : MessageInfo
no_message = roll-MessageInfo (record { name = []; field = []; nested_type = []; enum_type = []; extension = []; message_set_wire_format = false; map_entry = false; oneof_decl = [] })

-- a message with so many levels of messages, this one included
unfoldable pub message_info : ℕ → Value → MessageInfo
message_info zero v = no_message
message_info (suc k) v = message_by (message_info k) v

-- CustomHttpPattern: kind 1, path 2
abbrev pub custom_pattern : Value → PatternInfo
custom_pattern v = Custom (text_or_empty v 1) (text_or_empty v 2)

-- the pattern of an HttpRule, a oneof: get 2, put 3, post 4, delete 5, patch 6, custom 8
abbrev pub pattern_info : Value → Option PatternInfo
pattern_info v =
    option_or (option_map Get (text_at v 2)) (
    option_or (option_map Put (text_at v 3)) (
    option_or (option_map Post (text_at v 4)) (
    option_or (option_map Delete (text_at v 5)) (
    option_or (option_map Patch (text_at v 6))
    (option_map custom_pattern (message_at v 8))))))

-- HttpRule: its pattern, body 7, additional_bindings 11, response_body 12
abbrev pub rule_by : (Value → HttpInfo) → Value → HttpInfo
rule_by additional v = roll-HttpInfo (record {
  pattern = pattern_info v;
  body = text_or_empty v 7;
  additional_bindings = map additional (messages_at v 11);
  response_body = text_or_empty v 12;
})

-- a rule that says nothing
abbrev pub no_rule : HttpInfo
no_rule = roll-HttpInfo (record { pattern = None; body = []; additional_bindings = []; response_body = [] })

-- a rule with so many levels of rules, this one included
unfoldable pub rule_info : ℕ → Value → HttpInfo
rule_info zero v = no_rule
rule_info (suc k) v = rule_by (rule_info k) v

-- MethodDescriptorProto: name 1, input_type 2, output_type 3, options 4 (MethodOptions: google.api.http
-- 72295728), client_streaming 5, server_streaming 6
abbrev pub method_info : Value → RpcInfo
method_info v = record {
  name = text_or_empty v 1;
  input_type = text_or_empty v 2;
  output_type = text_or_empty v 3;
  http = option_map (rule_info 100) (option_and_then (λ options. message_at options 72295728) (message_at v 4));
  client_streaming = truth_or_false v 5;
  server_streaming = truth_or_false v 6;
}

-- ServiceDescriptorProto: name 1, method 2
abbrev pub service_info : Value → ServiceInfo
service_info v = record { name = text_or_empty v 1; method = map method_info (messages_at v 2) }

-- FileDescriptorProto: name 1, package 2, message_type 4, enum_type 5, service 6, extension 7, syntax 12, edition 14
abbrev pub file_info : Value → FileInfo
file_info v = record {
  name = text_or_empty v 1;
  «package» = text_or_empty v 2;
  message_type = map (message_info 100) (messages_at v 4);
  enum_type = map enum_info (messages_at v 5);
  service = map service_info (messages_at v 6);
  extension = map field_info (messages_at v 7);
  syntax = text_or_empty v 12;
  edition = number_or_zero v 14;
}

-- FileDescriptorSet: file 1
abbrev pub file_set_of : Value → FileSet
file_set_of v = record { files = map file_info (messages_at v 1) }
