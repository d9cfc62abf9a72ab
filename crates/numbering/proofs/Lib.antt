-- The laws of the marks, of the state and of the candidate; what a step answers; which states arise; and what a state means.
pub mod Masks
pub mod State
pub mod Candidate
pub mod Step
pub mod Arrival
pub mod Marks
pub mod Arising
pub mod Means
