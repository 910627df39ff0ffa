pub mod Meanings
pub mod Kept
