pub mod Numbering
pub mod History
