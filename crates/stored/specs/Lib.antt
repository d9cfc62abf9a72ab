pub mod Form
pub mod Ends
pub mod Arising
