pub mod Graphs
pub mod Order
