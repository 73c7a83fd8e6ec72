pub mod KeySteps
pub mod LawfulSets
pub mod LinkFaults
pub mod MessageFaults
pub mod MethodFaults
pub mod NameFaults
pub mod SetFaults
pub mod ToldNames
