pub mod formers
pub mod Extends
pub mod Saturated
pub mod Bytes
pub mod Base128
pub mod NoMemoryText
pub mod PiecewiseReading
