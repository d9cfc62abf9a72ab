pub mod A5
pub mod Gea4
pub mod Key
