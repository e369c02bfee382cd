-- for the inside of the crate alone
pub mod Orders
pub mod Kept
