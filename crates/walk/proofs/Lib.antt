-- The laws of the answers and of a run of the calls, and the example of document 01.
pub mod Answers
pub mod Example
pub mod Run
