-- what public clauses cite
pub mod Saying
pub mod LineFaults
pub mod ClassFaults
pub mod EntryFaults
pub mod Refusals
-- for the inside of the crate alone
pub mod Making
pub mod Meeting
