-- for the inside of the crate alone
pub mod Places
pub mod Slots
