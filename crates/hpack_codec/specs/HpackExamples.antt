-- Worked examples, computed by the definitions: those that name a section of RFC 7541, and others of this crate's own.
use Rattle.std.specs.Prelude.{◌≡◌, ℕ, List, [], ◌∷◌, ◌++◌, replicate, codes, Some, None, Ok, Err}
use Rattle.hpack_codec.specs.PrefixInteger.{integer_in, integer_bytes}
use Rattle.hpack_codec.specs.Huffman.{huffman_text}
use Rattle.hpack_codec.specs.HuffmanCodes.{code_of}
use Rattle.hpack_codec.specs.StringLiteral.{string_in}
use Rattle.hpack_codec.specs.StaticTable.{HeaderField}
use Rattle.hpack_codec.specs.DynamicTable.{HeaderTable, fields_size, first_table}
use Rattle.hpack_codec.specs.HeaderBlock.{HeaderBlock, header_block}
use Rattle.hpack_codec.specs.ConnectionBlocks.{header_blocks}
use Rattle.hpack_codec.specs.declared.fault.BlockFault.TheVariants.{Bad}

-- integers: ten, 1,337 and 42 (RFC 7541, appendix C.1), the largest, and some that are none
pub record IntegerExamplesHold : Type 0 where
  pub ten : integer_in 31 (0x0a ∷ []) ≡ Some (10, 1)
  pub thirteen_hundred : integer_in 31 (0x1f ∷ 0x9a ∷ 0x0a ∷ []) ≡ Some (1337, 3)
  pub forty_two : integer_in 255 (0x2a ∷ []) ≡ Some (42, 1)
  pub largest : integer_in 127 (0x7f ∷ 0x80 ∷ 0xff ∷ 0xff ∷ 0xff ∷ 0x0f ∷ []) ≡ Some (4294967295, 6)
  pub too_large : integer_in 127 (0x7f ∷ 0x81 ∷ 0xff ∷ 0xff ∷ 0xff ∷ 0x0f ∷ []) ≡ None
  pub too_long : integer_in 127 (0x7f ∷ 0x80 ∷ 0x80 ∷ 0x80 ∷ 0x80 ∷ 0x80 ∷ 0x00 ∷ []) ≡ None
  pub cut : integer_in 127 (0x7f ∷ 0x80 ∷ []) ≡ None
  pub written : integer_bytes 0 31 1337 ≡ 0x1f ∷ 0x9a ∷ 0x0a ∷ []

-- Huffman-coded texts, the first two of RFC 7541, appendices C.4.1 and C.4.2, and rests that are none
pub record HuffmanExamplesHold : Type 0 where
  pub address : huffman_text (0xf1 ∷ 0xe3 ∷ 0xc2 ∷ 0xe5 ∷ 0xf2 ∷ 0x3a ∷ 0x6b ∷ 0xa0 ∷ 0xab ∷ 0x90 ∷ 0xf4 ∷ 0xff ∷ []) ≡ Some (codes "www.example.com")
  pub no_cache : huffman_text (0xa8 ∷ 0xeb ∷ 0x10 ∷ 0x64 ∷ 0x9c ∷ 0xbf ∷ []) ≡ Some (codes "no-cache")
  pub seven_ones : huffman_text (0x00 ∷ 0x01 ∷ 0xfc ∷ 0x7f ∷ []) ≡ Some (codes "000!")
  pub empty : huffman_text [] ≡ Some []
  pub eight_ones : huffman_text (0xff ∷ []) ≡ None
  pub zero_in_rest : huffman_text (0x1e ∷ []) ≡ None
  pub three_ones : huffman_text (0x1f ∷ []) ≡ Some (codes "a")
  pub end_of_string : huffman_text (0xff ∷ 0xff ∷ 0xff ∷ 0xff ∷ []) ≡ None

-- strings: 64 bytes as they are, whose length takes all seven bits, and a Huffman-coded text (RFC 7541, section 5.2)
pub record StringExamplesHold : Type 0 where
  pub plain : string_in (0x40 ∷ replicate 64 0x61) ≡ Some (replicate 64 0x61, 65)
  pub coded : string_in (0x86 ∷ 0xa8 ∷ 0xeb ∷ 0x10 ∷ 0x64 ∷ 0x9c ∷ 0xbf ∷ []) ≡ Some (codes "no-cache", 7)

-- codes of symbols (RFC 7541, appendix B)
pub record CodeExamplesHold : Type 0 where
  pub digit_zero : code_of 48 ≡ 0 ∷ 0 ∷ 0 ∷ 0 ∷ 0 ∷ []
  pub letter_a : code_of 97 ≡ 0 ∷ 0 ∷ 0 ∷ 1 ∷ 1 ∷ []
  pub letter_upper_z : code_of 90 ≡ 1 ∷ 1 ∷ 1 ∷ 1 ∷ 1 ∷ 1 ∷ 0 ∷ 1 ∷ []
  pub nul : code_of 0 ≡ 1 ∷ 1 ∷ 1 ∷ 1 ∷ 1 ∷ 1 ∷ 1 ∷ 1 ∷ 1 ∷ 1 ∷ 0 ∷ 0 ∷ 0 ∷ []
  pub end : code_of 256 ≡ 1 ∷ 1 ∷ 1 ∷ 1 ∷ 1 ∷ 1 ∷ 1 ∷ 1 ∷ 1 ∷ 1 ∷ 1 ∷ 1 ∷ 1 ∷ 1 ∷ 1 ∷ 1 ∷ 1 ∷ 1 ∷ 1 ∷ 1 ∷ 1 ∷ 1 ∷ 1 ∷ 1 ∷ 1 ∷ 1 ∷ 1 ∷ 1 ∷ 1 ∷ 1 ∷ []

-- the first request of three on one connection (RFC 7541, appendix C.4.1), and the table after it
abbrev pub first_request : HeaderBlock
first_request = record {
  fields = (codes ":method", codes "GET") ∷ (codes ":scheme", codes "http") ∷ (codes ":path", codes "/") ∷ (codes ":authority", codes "www.example.com") ∷ [];
  table = record { fields = (codes ":authority", codes "www.example.com") ∷ []; max_size = 4096 };
}

-- the second request (RFC 7541, appendix C.4.2)
abbrev pub second_request : HeaderBlock
second_request = record {
  fields = first_request.fields ++ (codes "cache-control", codes "no-cache") ∷ [];
  table = record { fields = (codes "cache-control", codes "no-cache") ∷ (codes ":authority", codes "www.example.com") ∷ []; max_size = 4096 };
}

-- a response whose second field has a new name and is added to the table, and the table after it
abbrev pub first_response : HeaderBlock
first_response = record {
  fields = (codes ":status", codes "200") ∷ (codes "a", codes "b") ∷ [];
  table = record { fields = (codes "a", codes "b") ∷ []; max_size = 4096 };
}

-- a block that sets the size of the table to 256 and then spells the response of RFC 7541, appendix C.6.1
abbrev pub redirect_block : List ℕ
redirect_block =
    0x3f ∷ 0xe1 ∷ 0x01 ∷ 0x48 ∷ 0x82 ∷ 0x64 ∷ 0x02 ∷ 0x58 ∷ 0x85 ∷ 0xae ∷ 0xc3 ∷ 0x77 ∷ 0x1a ∷ 0x4b
    ∷ 0x61 ∷ 0x96 ∷ 0xd0 ∷ 0x7a ∷ 0xbe ∷ 0x94 ∷ 0x10 ∷ 0x54 ∷ 0xd4 ∷ 0x44 ∷ 0xa8 ∷ 0x20 ∷ 0x05 ∷ 0x95 ∷ 0x04
    ∷ 0x0b ∷ 0x81 ∷ 0x66 ∷ 0xe0 ∷ 0x82 ∷ 0xa6 ∷ 0x2d ∷ 0x1b ∷ 0xff
    ∷ 0x6e ∷ 0x91 ∷ 0x9d ∷ 0x29 ∷ 0xad ∷ 0x17 ∷ 0x18 ∷ 0x63 ∷ 0xc7 ∷ 0x8f ∷ 0x0b ∷ 0x97 ∷ 0xc8 ∷ 0xe9 ∷ 0xae
    ∷ 0x82 ∷ 0xae ∷ 0x43 ∷ 0xd3 ∷ []

-- the block of the response of RFC 7541, appendix C.6.2
abbrev pub second_redirect_block : List ℕ
second_redirect_block = 0x48 ∷ 0x83 ∷ 0x64 ∷ 0x0e ∷ 0xff ∷ 0xc1 ∷ 0xc0 ∷ 0xbf ∷ []

-- the fields of both responses, behind their statuses
abbrev pub redirect_fields : List HeaderField
redirect_fields =
    (codes "cache-control", codes "private")
    ∷ (codes "date", codes "Mon, 21 Oct 2013 20:13:21 GMT")
    ∷ (codes "location", codes "https://www.example.com")
    ∷ []

-- the table behind the second: the first status was evicted, and 222 of the 256 bytes are used
abbrev pub redirect_table : HeaderTable
redirect_table = record {
  fields =
      (codes ":status", codes "307")
      ∷ (codes "location", codes "https://www.example.com")
      ∷ (codes "date", codes "Mon, 21 Oct 2013 20:13:21 GMT")
      ∷ (codes "cache-control", codes "private")
      ∷ [];
  max_size = 256;
}

-- blocks of one connection, all through one table, up to the first that is refused
pub record ConnectionExamplesHold : Type 0 where
  pub exchange : header_blocks first_table ((0x88 ∷ 0x40 ∷ 0x01 ∷ 0x61 ∷ 0x01 ∷ 0x62 ∷ []) ∷ (0x88 ∷ 0xbe ∷ []) ∷ [])
      ≡ record { lists = first_response.fields ∷ first_response.fields ∷ []; table = first_response.table; fault = None }
  pub stale : header_blocks first_table ((0x88 ∷ 0xbe ∷ []) ∷ (0x88 ∷ []) ∷ [])
      ≡ record { lists = []; table = first_table; fault = Some (Bad 1) }
  pub evicting : header_blocks first_table (redirect_block ∷ second_redirect_block ∷ [])
      ≡ record {
        lists =
            ((codes ":status", codes "302") ∷ redirect_fields) ∷ ((codes ":status", codes "307") ∷ redirect_fields) ∷ [];
        table = redirect_table;
        fault = None;
      }
  pub behind : header_blocks first_table ((0x88 ∷ 0x40 ∷ 0x01 ∷ 0x61 ∷ 0x01 ∷ 0x62 ∷ []) ∷ (0xbf ∷ []) ∷ (0x88 ∷ []) ∷ [])
      ≡ record { lists = first_response.fields ∷ []; table = first_response.table; fault = Some (Bad 0) }

-- blocks, and what is wrong with some; the size of the table of RFC 7541, appendix C.4.1
pub record BlockExamplesHold : Type 0 where
  pub first : header_block first_table (0x82 ∷ 0x86 ∷ 0x84 ∷ 0x41 ∷ 0x8c ∷ 0xf1 ∷ 0xe3 ∷ 0xc2 ∷ 0xe5 ∷ 0xf2 ∷ 0x3a ∷ 0x6b ∷ 0xa0 ∷ 0xab ∷ 0x90 ∷ 0xf4 ∷ 0xff ∷ []) ≡ Ok first_request
  pub first_size : fields_size first_request.table.fields ≡ 57
  pub second : header_block first_request.table (0x82 ∷ 0x86 ∷ 0x84 ∷ 0xbe ∷ 0x58 ∷ 0x86 ∷ 0xa8 ∷ 0xeb ∷ 0x10 ∷ 0x64 ∷ 0x9c ∷ 0xbf ∷ []) ≡ Ok second_request
  pub index_zero : header_block first_table (0x82 ∷ 0x80 ∷ []) ≡ Err (Bad 1)
  pub index_past : header_block first_table (0xbe ∷ []) ≡ Err (Bad 0)
  pub late_size : header_block first_table (0x20 ∷ 0x82 ∷ 0x20 ∷ []) ≡ Err (Bad 2)
  pub large_size : header_block first_table (0x3f ∷ 0xe2 ∷ 0x1f ∷ []) ≡ Err (Bad 0)
  pub evicted : header_block first_request.table (0x20 ∷ 0xbe ∷ []) ≡ Err (Bad 1)
  pub sizes : header_block first_request.table (0x20 ∷ 0x3f ∷ 0xe1 ∷ 0x1f ∷ []) ≡ Ok (record { fields = []; table = first_table })
  pub added : header_block first_table (0x88 ∷ 0x40 ∷ 0x01 ∷ 0x61 ∷ 0x01 ∷ 0x62 ∷ []) ≡ Ok first_response
  pub newest : header_block first_response.table (0x88 ∷ 0xbe ∷ []) ≡ Ok first_response
  pub past_newest : header_block first_response.table (0xbf ∷ []) ≡ Err (Bad 0)
  pub never_indexed : header_block first_table (0x18 ∷ 0x03 ∷ 0x35 ∷ 0x30 ∷ 0x33 ∷ [])
      ≡ Ok (record { fields = (codes ":status", codes "503") ∷ []; table = first_table })
