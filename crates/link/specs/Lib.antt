pub mod Input
pub mod Link
pub mod Services
