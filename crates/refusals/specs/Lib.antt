pub mod Refusal
pub mod Call
pub mod Among
pub mod Number
