-- The laws of this crate: the words and halves, the cipher by what is lent to it, and what callers use.
pub mod Calling
pub mod Joined
pub mod Lent
pub mod Words
