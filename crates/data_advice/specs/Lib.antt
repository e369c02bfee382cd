-- what public clauses cite
pub mod Noting
pub mod ItemNotes
pub mod EntryNotes
pub mod Advice
-- for the inside of the crate alone
pub mod Walking
