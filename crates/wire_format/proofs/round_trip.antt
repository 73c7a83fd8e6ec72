-- What is written is read (the laws `canonical_bytes_decode_to_their_value`, `sound_types_have_sound_fields`).
pub mod FieldRecordLemmas
pub mod ScalarLemmas
pub mod ItemReadLemmas
pub mod EntryReadLemmas
pub mod SlotReadLemmas
pub mod RisingLemmas
pub mod MemberLemmas
pub mod MessageReadLemmas
pub mod LengthLemmas
pub mod RoundTrip
