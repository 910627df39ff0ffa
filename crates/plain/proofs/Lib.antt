mod Copying
mod Ends
pub mod Kept
pub mod Weights
