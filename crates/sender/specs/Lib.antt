pub mod Sender
pub mod Sealed
