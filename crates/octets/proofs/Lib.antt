-- The laws of this crate: numbers and their bits, lists by their elements, a key of 16 octets, stored bit strings, the cut, the
-- xor of octets and of bit strings, and tables that are permutations.
pub mod Cutting
pub mod Listed
pub mod Number
pub mod Octets
pub mod Permutation
pub mod Stored
pub mod Xored
pub mod XoredBits
