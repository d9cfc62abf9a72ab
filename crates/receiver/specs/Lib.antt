pub mod Receiver
pub mod Opened
