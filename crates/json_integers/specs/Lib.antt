pub mod IntegerTexts
pub mod IntegerExamples
pub mod NumberCut
pub mod PartsSeen
pub mod WholeNumbers
pub mod ExactIntegers
