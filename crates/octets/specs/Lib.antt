pub mod Bits
pub mod Cut
pub mod LowBits
pub mod Octets
pub mod Permutation
pub mod Xor
