pub mod Quoted
pub mod Script
