-- what public clauses cite
pub mod Outside
pub mod Causes
pub mod Running
pub mod Twins
-- for the inside of the crate alone
pub mod Playing
