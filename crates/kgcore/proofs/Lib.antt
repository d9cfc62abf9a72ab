-- The laws of this crate: the round keys, the blocks one after the other, and the keystream for its callers.
pub mod Keys
pub mod Laws
pub mod Stream
