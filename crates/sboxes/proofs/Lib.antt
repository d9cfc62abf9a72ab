-- The laws of this crate: the S-boxes, S9 by its products and by doubling, and an entry of the table for FI.
pub mod Doubling
pub mod Looked
pub mod Products
pub mod SBoxes
