-- The laws of the stored forms: where each octet stands, how a form is written part by part, what was written is read back, what storing and restoring
-- answer, cause by cause, what callers use of senders and of receivers, and which ends arise.
pub mod Answers
pub mod Arising
pub mod Places
pub mod ReadBack
pub mod Receivers
pub mod Senders
pub mod Writing
