pub mod Choices
pub mod Progress
pub mod Ranges
pub mod Solves
