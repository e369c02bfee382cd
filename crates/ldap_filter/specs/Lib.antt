-- what public clauses cite
pub mod Assertion
pub mod filter
pub mod reading
pub mod FilterSpelling
