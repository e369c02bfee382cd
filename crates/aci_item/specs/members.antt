-- what public clauses cite
pub mod ItemParts
pub mod Limits
-- for the inside of the crate alone
pub mod Gathering
