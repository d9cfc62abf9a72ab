-- The laws of a refusal order, of a public call, of a lent output, of a number among others, and of tests that the checker computes.
pub mod Among
pub mod Calls
pub mod Laws
pub mod Number
pub mod Orders
pub mod Tests
pub mod Within
