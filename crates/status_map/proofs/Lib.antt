-- A grpc-message that is put is read as the text, and has visible characters alone (`sent_messages_are_read_back`,
-- `sent_messages_are_visible_characters`).
pub mod EscapeLemmas
-- An error body is one text, of the code and the message (`put_error`).
pub mod BodyLemmas
-- An error body is a JSON text of an object, which has one code and one message.
pub mod TextLemmas
-- What is made of bytes that may be no text is UTF-8 (`error_bodies_tell_the_code_and_the_text`).
pub mod LossyLemmas
-- Values that are plain to see, computed by the definitions.
pub mod StandardFacts
