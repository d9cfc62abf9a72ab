-- The laws of MILENAGE: the strings by their octets, the parts of the outputs, what the calls take, and the laws for their callers.
pub mod Laws
pub mod Octets
pub mod Parts
pub mod Sizes
