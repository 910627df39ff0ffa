pub mod CallOrders
pub mod Faults
