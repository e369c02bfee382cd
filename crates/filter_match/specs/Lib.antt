-- what public clauses cite: what items ask, what a filter is of an entry, and what it needs
pub mod Substrings
pub mod Tests
pub mod Truth
pub mod Judging
pub mod walk
pub mod Needs
-- for the inside of the crate alone
pub mod Asked
pub mod Preparing
