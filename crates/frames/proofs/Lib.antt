-- The laws of the bench frame: what its tests say, its layout, the look and the writing of a header.
pub mod Laws
pub mod ReadBack
pub mod Tests
