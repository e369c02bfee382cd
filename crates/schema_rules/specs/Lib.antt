-- what public clauses cite
pub mod Checking
-- for the inside of the crate alone
pub mod Classes
pub mod Beside
