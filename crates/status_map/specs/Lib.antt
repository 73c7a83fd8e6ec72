pub mod StatusTables
pub mod ErrorBody
pub mod GrpcMessage
pub mod ErrorText
