pub mod Copies
pub mod Ranges
pub mod Values
