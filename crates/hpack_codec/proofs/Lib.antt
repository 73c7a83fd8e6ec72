-- Huffman-coded strings: what the steps of four bits spell.
pub mod HuffmanSteps
pub mod HuffmanText
-- The fields of a block, and the dynamic table in its two rings.
pub mod FieldLemmas
pub mod TableLemmas
pub mod RangeLemmas
pub mod FieldStarts
-- The field of an index, over both tables, and the index of a field.
pub mod IndexRows
pub mod IndexLemmas
-- Representations and blocks that are read: the answer of each call is what the definitions spell.
pub mod LiteralLemmas
pub mod RepresentationLemmas
pub mod BlockLemmas
pub mod BlockReadLemmas
-- A block is read exactly where it spells fields within the limit (`lists_within_the_limit_are_read`).
pub mod RoomLemmas
-- What a fault says of the fields of a block (`blocks_past_the_limit_are_too_long`, `bad_blocks_spell_no_fields`).
pub mod FaultLemmas
-- A block that is written spells its fields (`encode`, `written_blocks_spell_their_fields`).
pub mod EncodingLemmas
pub mod WrittenIntegers
pub mod WrittenFields
pub mod WrittenBlocks
-- A block is a list of representations, and its fault says where they end (`blocks_are_lists_of_representations`,
-- `bad_exactly_where_no_representation_begins`, `too_long_exactly_where_the_list_passes_the_limit`).
pub mod RepresentationSizes
pub mod BlockEnds
-- Coded strings are codes and padding (`coded_strings_are_codes_and_padding`, `no_code_begins_another`).
pub mod HuffmanCodeLemmas
-- How the table changes (`tables_evict_from_the_end`, `first_bytes_tell_what_becomes_of_the_table`).
pub mod EvictionLemmas
pub mod TableChanges
-- The blocks of a connection (`blocks_go_through_one_table`, `connections_go_on`, `tables_stay_within_their_size`).
pub mod ConnectionLemmas
pub mod TableBounds
