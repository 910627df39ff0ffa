pub mod Books
pub mod Calls
pub mod Sheets
pub mod Steps
pub mod Tables
pub mod Text
pub mod Tries
