-- what public clauses cite
pub mod Changes
-- for the inside of the crate alone
pub mod Rows
