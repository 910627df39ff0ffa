pub mod Sequences
pub mod Text
