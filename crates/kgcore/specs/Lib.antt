pub mod Kgcore
