-- The laws of the fields of a line and of its form, of the texts of an answer, of what is answered, and of a run of the calls.
pub mod ByForm
pub mod Fields
pub mod Known
pub mod Laws
pub mod Named
pub mod Refused
pub mod Run
pub mod Values
