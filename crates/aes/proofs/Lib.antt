-- The laws of this crate: the S-box by its entries, words by their octets, the table of the rounds, the rounds over columns, the key expansion, arrays
-- made by a function of the index, and what callers use.
pub mod Calling
pub mod Expansion
pub mod FourOctets
pub mod Made
pub mod Mixing
pub mod SBox
pub mod States
