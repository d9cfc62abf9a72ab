pub mod Answer
pub mod Calls
pub mod Challenge
pub mod Form
pub mod Texts
