-- The laws of digits and numbers, of the tests of a form, of texts that are put, of lines that are heard and of a run of the calls, and what callers
-- learn.
pub mod Callers
pub mod Calls
pub mod Digits
pub mod Form
pub mod Hearing
pub mod InDecimal
pub mod Lines
pub mod Placed
pub mod Run
pub mod Text
