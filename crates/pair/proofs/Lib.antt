-- The laws of the pair: what it takes, the padded string of f9 by its bits, by its blocks and as what it tells, and f8 and f9 over their definitions.
pub mod Blocks
pub mod Laws
pub mod Message
pub mod Padded
pub mod Telling
pub mod Words
