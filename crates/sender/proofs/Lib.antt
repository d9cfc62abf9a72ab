-- The laws of a sender: what sealing answers, cause by cause, the causes of refusal 12, what callers use, and that what is handed out lies within the output.
pub mod Causes
pub mod Laws
pub mod Sealing
pub mod Within
