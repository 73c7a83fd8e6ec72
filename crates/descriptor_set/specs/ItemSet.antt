-- A worked set: a.proto of package p in proto3, with the message M, whose field is `string id = 1`, and the service S,
-- whose method Get takes and gives M and has the rule `get: "/v1/items/{id}"` (google/api/http.proto).
use Rattle.std.specs.Prelude.{◌≡◌, ℕ, pos, false, List, [], ◌∷◌, codes, Some, None, Ok}
use Rattle.descriptor_set.specs.SetReading.{set_reading}
use Rattle.descriptors.specs.declared.file_set.FieldInfo.{FieldInfo}
use Rattle.descriptors.specs.declared.file_set.FileSet.{FileSet}
use Rattle.descriptors.specs.declared.file_set.HttpInfo.{HttpInfo, roll-HttpInfo}
use Rattle.descriptors.specs.declared.file_set.MessageInfo.{MessageInfo, roll-MessageInfo}
use Rattle.descriptors.specs.declared.file_set.PatternInfo.TheVariants.{Get}
use Rattle.descriptors.specs.declared.file_set.RpcInfo.{RpcInfo}

-- its bytes, as `protoc --descriptor_set_out` writes it
abbrev pub item_bytes : List ℕ
item_bytes =
    0x0a ∷ 0x59 ∷ 0x0a ∷ 0x07 ∷ 0x61 ∷ 0x2e ∷ 0x70 ∷ 0x72 ∷ 0x6f ∷ 0x74 ∷ 0x6f ∷ 0x12 ∷
    0x01 ∷ 0x70 ∷ 0x22 ∷ 0x13 ∷ 0x0a ∷ 0x01 ∷ 0x4d ∷ 0x12 ∷ 0x0e ∷ 0x0a ∷ 0x02 ∷ 0x69 ∷
    0x64 ∷ 0x18 ∷ 0x01 ∷ 0x20 ∷ 0x01 ∷ 0x28 ∷ 0x09 ∷ 0x52 ∷ 0x02 ∷ 0x69 ∷ 0x64 ∷ 0x32 ∷
    0x2e ∷ 0x0a ∷ 0x01 ∷ 0x53 ∷ 0x12 ∷ 0x29 ∷ 0x0a ∷ 0x03 ∷ 0x47 ∷ 0x65 ∷ 0x74 ∷ 0x12 ∷
    0x04 ∷ 0x2e ∷ 0x70 ∷ 0x2e ∷ 0x4d ∷ 0x1a ∷ 0x04 ∷ 0x2e ∷ 0x70 ∷ 0x2e ∷ 0x4d ∷ 0x22 ∷
    0x16 ∷ 0x82 ∷ 0xd3 ∷ 0xe4 ∷ 0x93 ∷ 0x02 ∷ 0x10 ∷ 0x12 ∷ 0x0e ∷ 0x2f ∷ 0x76 ∷ 0x31 ∷
    0x2f ∷ 0x69 ∷ 0x74 ∷ 0x65 ∷ 0x6d ∷ 0x73 ∷ 0x2f ∷ 0x7b ∷ 0x69 ∷ 0x64 ∷ 0x7d ∷ 0x62 ∷
    0x06 ∷ 0x70 ∷ 0x72 ∷ 0x6f ∷ 0x74 ∷ 0x6f ∷ 0x33 ∷ []

-- the field `id`
abbrev pub id_field : FieldInfo
id_field = record {
  name = codes "id";
  extendee = [];
  number = pos 1;
  label = pos 1;
  type_number = pos 9;
  type_name = [];
  packed = None;
  oneof_index = None;
  json_name = Some (codes "id");
  proto3_optional = false;
}

-- the message M
abbrev pub item_message : MessageInfo
item_message = roll-MessageInfo (record {
  name = codes "M";
  field = id_field ∷ [];
  nested_type = [];
  enum_type = [];
  extension = [];
  message_set_wire_format = false;
  map_entry = false;
  oneof_decl = [];
})

-- the rule of the method
abbrev pub item_rule : HttpInfo
item_rule = roll-HttpInfo
    (record {
      pattern = Some (Get (codes "/v1/items/{id}"));
      body = [];
      additional_bindings = [];
      response_body =
          [];
    })

-- the method Get
abbrev pub item_method : RpcInfo
item_method = record {
  name = codes "Get";
  input_type = codes ".p.M";
  output_type = codes ".p.M";
  http = Some item_rule;
  client_streaming = false;
  server_streaming = false;
}

-- what it declares
abbrev pub item_set : FileSet
item_set = record {
  files = record {
    name = codes "a.proto";
    «package» = codes "p";
    message_type = item_message ∷ [];
    enum_type = [];
    service = record { name = codes "S"; method = item_method ∷ [] } ∷ [];
    extension = [];
    syntax = codes "proto3";
    edition = pos 0;
  } ∷ [];
}

-- the bytes are read as that
abbrev pub IsItemSetRead : Type 0
IsItemSetRead = set_reading item_bytes ≡ Ok item_set
