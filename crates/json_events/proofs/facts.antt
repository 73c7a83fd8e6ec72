pub mod StandardFacts
pub mod TextFacts
