pub mod Answering
pub mod Settling
pub mod Steps
