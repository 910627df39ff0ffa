pub mod Held
pub mod Lengths
pub mod Sections
pub mod Stepped
pub mod Written
