-- The laws of a receiver: what opening a frame answers, cause by cause, the causes of refusal 12, what callers use, and that what is handed out lies within the output.
pub mod Causes
pub mod Laws
pub mod Opening
pub mod Within
