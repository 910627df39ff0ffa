pub mod Sets
pub mod Facts
pub mod Listing
pub mod Checks
pub mod Order
