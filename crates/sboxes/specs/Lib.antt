pub mod FiTable
pub mod Gates
pub mod Tables
