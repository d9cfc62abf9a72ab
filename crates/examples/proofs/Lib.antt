-- The one statement over the table of marked examples.
pub mod Agree
