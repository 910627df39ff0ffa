pub mod Describing
pub mod Lists
pub mod Meanings
pub mod Once
pub mod Undo
