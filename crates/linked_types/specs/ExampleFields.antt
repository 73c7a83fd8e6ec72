-- Declared fields of which the examples of linked fields are, and a small set of types.
use Rattle.std.specs.Prelude.{ℕ, pos, Bool, true, false, List, [], ◌∷◌, codes, Some, None}
use Rattle.descriptors.specs.declared.file_set.FieldInfo.{FieldInfo}
use Rattle.descriptor_pool.specs.DeclaredNames.{DeclaredEnum, DeclaredMessage}
use Rattle.descriptor_pool.specs.DeclaredTypes.{SetTypes}

-- a field of this label (1 optional, 3 repeated) and this type
abbrev pub declared_field : ℕ → ℕ → FieldInfo
declared_field label type_number = record {
  name = codes "count";
  extendee = [];
  number = pos 1;
  label = pos label;
  type_number = pos type_number;
  type_name = [];
  packed = None;
  oneof_index = None;
  json_name = None;
  proto3_optional = false;
}

-- `int32 count = 1;`
abbrev pub int32_field : FieldInfo
int32_field = declared_field 1 5

-- `repeated int32 count = 1;`
abbrev pub int32_list : FieldInfo
int32_list = declared_field 3 5

-- the same, with `[packed = ..]`
abbrev pub int32_list_with : Bool → FieldInfo
int32_list_with packed = record int32_list { packed = Some packed }

-- an int32 field that is a member of the oneof of an index
abbrev pub member_of : ℕ → FieldInfo
member_of i = record int32_field { oneof_index = Some (pos i) }

-- `optional int32 count = 1;` of proto3: alone in the oneof of an index
abbrev pub optional_of : ℕ → FieldInfo
optional_of i = record (member_of i) { proto3_optional = true }

-- a field of this label whose type is the message `.shop.Shelf`
abbrev pub shelf_field : ℕ → FieldInfo
shelf_field label = record (declared_field label 11) { type_name = codes ".shop.Shelf" }

-- the syntax of a proto3 file
abbrev pub proto3 : List ℕ
proto3 = codes "proto3"

-- the syntax of a proto2 file
abbrev pub proto2 : List ℕ
proto2 = codes "proto2"

-- a message with a real oneof, an optional field in a oneof of its own, and another real oneof
abbrev pub oneof_fields : List FieldInfo
oneof_fields = int32_field ∷ member_of 0 ∷ member_of 0 ∷ optional_of 1 ∷ member_of 2 ∷ []

-- a message of the package shop
abbrev pub shop_message : List ℕ → List FieldInfo → Bool → DeclaredMessage
shop_message name fields is_map_entry = record {
  name = name;
  syntax = proto3;
  fields = fields;
  oneofs = [];
  is_map_entry = is_map_entry;
  is_message_set = false;
}

-- the entry of `map<string, sint64>`: `string key = 1; sint64 value = 2;`
abbrev pub stock_entry : DeclaredMessage
stock_entry =
    shop_message (codes "shop.Shelf.StockEntry")
    (declared_field 1 9 ∷ record (declared_field 1 18) { number = pos 2 } ∷ []) true

-- an enum of the package shop
abbrev pub shop_enum : List ℕ → DeclaredEnum
shop_enum name = record { name = name; values = [] }

-- a shelf, and the entry of its stock; sizes and colours
abbrev pub shop_types : SetTypes
shop_types = record {
  messages = shop_message (codes "shop.Shelf") [] false ∷ stock_entry ∷ [];
  enums = shop_enum (codes "shop.Size") ∷ shop_enum (codes "shop.Colour") ∷ [];
  extended = [];
}

-- `map<string, sint64> stock`
abbrev pub stock_map : FieldInfo
stock_map = record (declared_field 3 11) { type_name = codes ".shop.Shelf.StockEntry" }

-- `repeated int32 page_counts = 4;`
abbrev pub page_counts : FieldInfo
page_counts = record int32_list { name = codes "page_counts"; number = pos 4 }

-- `Colour colour = 1;`
abbrev pub colour_field : FieldInfo
colour_field = record (declared_field 1 14) { type_name = codes ".shop.Colour" }
