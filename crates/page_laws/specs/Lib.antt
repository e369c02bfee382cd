-- what public clauses cite
pub mod Listing
