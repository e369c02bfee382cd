-- what public clauses cite
pub mod Groups
pub mod Twins
