pub mod F8
pub mod F9
pub mod Message
