-- The laws of the keystreams: the cutting of the generator's output, the prepared key, and what callers use.
pub mod Cutting
pub mod Keys
pub mod Laws
