pub mod Acts
pub mod Columns
pub mod Ends
pub mod Play
pub mod Plugs
pub mod Rows
pub mod Step
pub mod Words
