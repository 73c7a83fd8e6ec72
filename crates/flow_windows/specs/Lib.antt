-- What contracts of this crate cite.
pub mod Window
pub mod Receipt
