-- what public clauses cite
pub mod Responses
