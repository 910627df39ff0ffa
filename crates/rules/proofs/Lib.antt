mod Absent
mod ByNumber
mod Items
mod Judging
pub mod Kept
mod Least
mod Places
mod Placing
mod Rings
mod Rows
