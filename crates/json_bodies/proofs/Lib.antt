-- A whole body means at most one value or has one fault, and not both (`one_outcome_of_a_text`, `read_body`).
pub mod BodyLemmas
-- What has been taken of a body's bytes, call by call (`read_body`).
pub mod TakenLemmas
-- Any bytes mean a value, or have a fault (`every_text_has_an_outcome`).
pub mod EachBody
-- Bytes show at most one first fault before they end, or none (`read_front`, `one_front_fault`, `fronts_are_decided`).
pub mod FrontLemmas
-- A fault that bytes show before they end stays, whatever follows (`front_faults_stay`).
mod StayLemmas
-- Worked bodies, by the reader's machine (`body_faults`).
pub mod ExampleFacts
