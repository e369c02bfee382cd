-- what public clauses cite
pub mod NewEntries
pub mod Reading
-- for the inside of the crate alone
pub mod Steps
