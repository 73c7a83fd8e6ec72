pub mod PartSizes
pub mod PlaceSteps
pub mod PartScan
pub mod PartReading
