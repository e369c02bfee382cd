-- what public clauses cite
pub mod Store
pub mod SystemLink
pub mod Turns
-- what the crate's inside promises itself
pub mod Cutting
pub mod Numbers
pub mod Offering
pub mod Places
pub mod Sessions
