-- Worked examples of descriptor sets, computed by the definitions.
use Rattle.std.specs.Prelude.{◌≡◌, pos, [], ◌∷◌, true, codes, Ok, Err}
use Rattle.descriptor_set.specs.SetReading.{set_reading}
use Rattle.descriptor_set.specs.declared.fault.SetFault.TheVariants.{Wire, NotUtf8}
use Rattle.descriptors.specs.declared.file_set.FileInfo.{FileInfo}
use Rattle.descriptors.specs.declared.file_set.MessageInfo.{MessageInfo, roll-MessageInfo}
use Rattle.wire_records.specs.declared.fault.WireKind.TheVariants.{Short, BadTag}

-- a file that declares nothing
abbrev pub empty_file : FileInfo
empty_file = record { name = []; «package» = []; message_type = []; enum_type = []; service = []; extension = []; syntax = []; edition = pos 0 }

-- a message with both of its options
abbrev pub set_entry : MessageInfo
set_entry = roll-MessageInfo (record { name = []; field = []; nested_type = []; enum_type = []; extension = []; message_set_wire_format = true; map_entry = true; oneof_decl = [] })

-- what small sets declare, and why others are not read
pub record SetExamplesHold : Type 0 where
  -- the file a.proto of package p
  pub file : set_reading (0x0a ∷ 0x0c ∷ 0x0a ∷ 0x07 ∷ 0x61 ∷ 0x2e ∷ 0x70 ∷ 0x72 ∷ 0x6f ∷ 0x74 ∷ 0x6f ∷ 0x12 ∷ 0x01 ∷ 0x70 ∷ []) ≡ Ok (record { files = record empty_file { name = codes "a.proto"; «package» = codes "p" } ∷ [] })
  -- of the packages q and p the last counts
  pub last_package : set_reading (0x0a ∷ 0x06 ∷ 0x12 ∷ 0x01 ∷ 0x71 ∷ 0x12 ∷ 0x01 ∷ 0x70 ∷ []) ≡ Ok (record { files = record empty_file { «package» = codes "p" } ∷ [] })
  -- two records of message options are one message
  pub merged_options : set_reading (0x0a ∷ 0x0a ∷ 0x22 ∷ 0x08 ∷ 0x3a ∷ 0x02 ∷ 0x08 ∷ 0x01 ∷ 0x3a ∷ 0x02 ∷ 0x38 ∷ 0x01 ∷ []) ≡ Ok (record { files = record empty_file { message_type = set_entry ∷ [] } ∷ [] })
  -- a dependency, which is not listed, may be no text
  pub unlisted : set_reading (0x0a ∷ 0x03 ∷ 0x1a ∷ 0x01 ∷ 0xff ∷ []) ≡ Ok (record { files = empty_file ∷ [] })
  pub not_utf8 : set_reading (0x0a ∷ 0x03 ∷ 0x0a ∷ 0x01 ∷ 0xff ∷ []) ≡ Err (NotUtf8 2)
  pub cut : set_reading (0x0a ∷ 0x02 ∷ 0x0a ∷ []) ≡ Err (Wire (record { place = 0; kind = Short }))
  pub first_of_two : set_reading (0x0a ∷ 0x05 ∷ 0x00 ∷ 0x01 ∷ 0x0a ∷ 0x01 ∷ 0xff ∷ []) ≡ Err (Wire (record { place = 2; kind = BadTag }))
