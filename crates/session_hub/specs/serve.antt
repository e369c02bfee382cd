-- what public clauses cite
pub mod Loops
-- for the inside of the crate alone
pub mod Servers
pub mod Turns
