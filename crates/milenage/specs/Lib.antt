pub mod Calls
pub mod Milenage
pub mod Taken
