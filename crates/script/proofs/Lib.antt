-- The laws of the lines of a script: what each asks for, and that this is possible.
pub mod Lines
