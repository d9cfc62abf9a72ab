-- The laws of the form of a line, of the answers and of a run of the calls.
pub mod Accepted
pub mod Answers
pub mod ByForm
pub mod Parts
pub mod Run
