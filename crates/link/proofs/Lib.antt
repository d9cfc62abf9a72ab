-- The laws of a link: what opening it asks, the frame of a number, and which frames share an INPUT.
pub mod Frames
pub mod Inputs
pub mod Links
