-- what public clauses cite
pub mod Taking
