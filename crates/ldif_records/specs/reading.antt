-- what public clauses cite
pub mod Faults
pub mod Records
-- for the inside of the crate alone
pub mod Steps
