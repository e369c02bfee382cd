-- what public clauses cite
pub mod Filters
pub mod Nodes
-- for the inside of the crate alone
pub mod Codes
pub mod Sizes
