-- The laws of columns, the ends and the shelf, what `demo` writes, and examples.
pub mod Ends
pub mod Example
pub mod Kept
pub mod Run
pub mod Steps
pub mod Texts
