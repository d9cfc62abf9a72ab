pub mod Halves
pub mod Kasumi
pub mod Lent
