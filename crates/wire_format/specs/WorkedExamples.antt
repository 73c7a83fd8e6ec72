-- Worked examples of the encoding guide's rules, computed by the definitions.
use Rattle.std.specs.Prelude.{◌≡◌, pos, negsuc, [], ◌∷◌, false, true, codes, Ok, Err}
use Rattle.schema.specs.declared.key.Key.TheVariants.{Text as TextKey}
use Rattle.message_types.specs.declared.fields.Kind.TheVariants.{One as OneOf, Message as MessageOf}
use Rattle.message_types.specs.declared.fields.Presence.TheVariants.{Implicit, Explicit}
use Rattle.message_types.specs.declared.fields.Scalar.TheVariants.{Int32, Sint32, Text as TextOf}
use Rattle.message_types.specs.declared.fields.Shape.TheVariants.{Single, Member, Many as ManyOf, Map as MapOf}
use Rattle.message_types.specs.declared.messages.Known.TheVariants.{Plain}
use Rattle.message_types.specs.declared.messages.TypeId.{TypeId}
use Rattle.message_types.specs.declared.messages.Types.{Types}
use Rattle.schema.specs.declared.value.Item.{Number, Text, Message}
use Rattle.schema.specs.declared.value.Slot.{One, Many, Pairs}
use Rattle.schema.specs.declared.value.Value.{Value}
use Rattle.wire_format.specs.CanonicalBytes.{canonical_bytes}
use Rattle.wire_format.specs.Decoding.{decoding}
use Rattle.wire_format.specs.WireFaults.{Wire, NotUtf8}
use Rattle.wire_records.specs.declared.fault.WireKind.TheVariants.{Short, LongVarint, BadGroup}

-- a book: two texts, a number, a packed list, a map, a oneof of a text and a book, a zigzag number, and a book that follows it
abbrev pub book_types : Types
book_types = record {
  messages = record {
    name = codes "p.Book";
    known = Plain;
    fields =
        record { name = codes "name"; json = codes "name"; number = 1; kind = OneOf TextOf; shape = Single; presence = Implicit; packed = false }
        ∷ record { name = codes "title"; json = codes "title"; number = 2; kind = OneOf TextOf; shape = Single; presence = Implicit; packed = false }
        ∷ record { name = codes "pages"; json = codes "pages"; number = 3; kind = OneOf Int32; shape = Single; presence = Implicit; packed = false }
        ∷ record { name = codes "marks"; json = codes "marks"; number = 4; kind = OneOf Int32; shape = ManyOf; presence = Implicit; packed = true }
        ∷ record { name = codes "stock"; json = codes "stock"; number = 9; kind = OneOf Int32; shape = MapOf TextOf; presence = Implicit; packed = false }
        ∷ record { name = codes "person"; json = codes "person"; number = 10; kind = OneOf TextOf; shape = Member 0; presence = Explicit; packed = false }
        ∷ record { name = codes "owner"; json = codes "owner"; number = 11; kind = MessageOf (record { 0 = 0 }); shape = Member 0; presence = Explicit; packed = false }
        ∷ record { name = codes "shift"; json = codes "shift"; number = 12; kind = OneOf Sint32; shape = Single; presence = Implicit; packed = false }
        ∷ record { name = codes "sequel"; json = codes "sequel"; number = 14; kind = MessageOf (record { 0 = 0 }); shape = Single; presence = Explicit; packed = false }
        ∷ [];
  } ∷ [];
  enums = [];
}

-- the type of a book
abbrev pub book : TypeId
book = record { 0 = 0 }

-- a book with the name `a/b`
abbrev pub named : Value
named = record { fields = (1, One (Text (codes "a/b"))) ∷ [] }

-- a book with -1 pages
abbrev pub negative : Value
negative = record { fields = (3, One (Number (negsuc 0))) ∷ [] }

-- a book with three marks
abbrev pub marked : Value
marked = record { fields = (4, Many (Number (pos 1) ∷ Number (pos 2) ∷ Number (pos 300) ∷ [])) ∷ [] }

-- a book whose stock has two keys
abbrev pub stocked : Value
stocked = record { fields = (9, Pairs (record { entries = (TextKey (codes "a"), Number (pos 2)) ∷ (TextKey (codes "b"), Number (pos 0)) ∷ [] })) ∷ [] }

-- a book whose sequel has a name and a title
abbrev pub followed : Value
followed = record { fields = (14, One (Message (record { fields = (1, One (Text (codes "b"))) ∷ (2, One (Text (codes "a"))) ∷ [] }))) ∷ [] }

-- what is written
pub record CanonicalExamplesHold : Type 0 where
  pub text : canonical_bytes book_types book named ≡ 0x0a ∷ 0x03 ∷ 0x61 ∷ 0x2f ∷ 0x62 ∷ []
  pub negative_number : canonical_bytes book_types book negative ≡ 0x18 ∷ 0xff ∷ 0xff ∷ 0xff ∷ 0xff ∷ 0xff ∷ 0xff ∷ 0xff ∷ 0xff ∷ 0xff ∷ 0x01 ∷ []
  pub packed_list : canonical_bytes book_types book marked ≡ 0x22 ∷ 0x04 ∷ 0x01 ∷ 0x02 ∷ 0xac ∷ 0x02 ∷ []
  pub map_of_two : canonical_bytes book_types book stocked ≡ 0x4a ∷ 0x05 ∷ 0x0a ∷ 0x01 ∷ 0x61 ∷ 0x10 ∷ 0x02 ∷ 0x4a ∷ 0x05 ∷ 0x0a ∷ 0x01 ∷ 0x62 ∷ 0x10 ∷ 0x00 ∷ []
  pub merged_message : canonical_bytes book_types book followed ≡ 0x72 ∷ 0x06 ∷ 0x0a ∷ 0x01 ∷ 0x62 ∷ 0x12 ∷ 0x01 ∷ 0x61 ∷ []

-- what is read
pub record DecodingExamplesHold : Type 0 where
  pub merged_message : decoding book_types book (0x72 ∷ 0x03 ∷ 0x12 ∷ 0x01 ∷ 0x61 ∷ 0x72 ∷ 0x03 ∷ 0x0a ∷ 0x01 ∷ 0x62 ∷ []) ≡ Ok followed
  pub packed_and_not : decoding book_types book (0x22 ∷ 0x02 ∷ 0x01 ∷ 0x02 ∷ 0x20 ∷ 0xac ∷ 0x02 ∷ []) ≡ Ok marked
  pub last_of_oneof : decoding book_types book (0x52 ∷ 0x01 ∷ 0x78 ∷ 0x5a ∷ 0x00 ∷ []) ≡ Ok (record { fields = (11, One (Message (record { fields = [] }))) ∷ [] })
  pub first_of_oneof : decoding book_types book (0x5a ∷ 0x00 ∷ 0x52 ∷ 0x01 ∷ 0x79 ∷ []) ≡ Ok (record { fields = (10, One (Text (codes "y"))) ∷ [] })
  pub zigzag : decoding book_types book (0x60 ∷ 0x03 ∷ []) ≡ Ok (record { fields = (12, One (Number (negsuc 1))) ∷ [] })
  pub long_varint : decoding book_types book (0x18 ∷ 0x80 ∷ 0x80 ∷ 0x80 ∷ 0x80 ∷ 0x80 ∷ 0x80 ∷ 0x80 ∷ 0x80 ∷ 0x80 ∷ 0x80 ∷ []) ≡ Err (Wire 0 LongVarint)
  pub open_group : decoding book_types book (0x0b ∷ []) ≡ Err (Wire 0 BadGroup)
  pub end_of_outer_group : decoding book_types book (0x0b ∷ 0x13 ∷ 0x0c ∷ 0x14 ∷ []) ≡ Err (Wire 2 BadGroup)
  pub short : decoding book_types book (0x0a ∷ 0x05 ∷ 0x61 ∷ 0x62 ∷ []) ≡ Err (Wire 0 Short)
  pub short_element : decoding book_types book (0x22 ∷ 0x01 ∷ 0x80 ∷ []) ≡ Err (Wire 2 Short)
  pub not_utf8 : decoding book_types book (0x0a ∷ 0x01 ∷ 0xff ∷ []) ≡ Err (NotUtf8 0)

-- the last entry of a key wins, a missing value is its default, and keys rise
pub record MapExamplesHold : Type 0 where
  pub last_entries : decoding book_types book (0x4a ∷ 0x03 ∷ 0x0a ∷ 0x01 ∷ 0x62 ∷ 0x4a ∷ 0x05 ∷ 0x0a ∷ 0x01 ∷ 0x61 ∷ 0x10 ∷ 0x01 ∷ 0x4a ∷ 0x05 ∷ 0x0a ∷ 0x01 ∷ 0x61 ∷ 0x10 ∷ 0x02 ∷ []) ≡ Ok stocked
