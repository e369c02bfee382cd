-- what public clauses cite
pub mod Change
pub mod Renaming
-- for the inside of the crate alone
pub mod Steps
