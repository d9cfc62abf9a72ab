pub mod Digits
pub mod Form
pub mod Hearing
pub mod Lines
pub mod Text
