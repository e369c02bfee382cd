-- what public clauses cite
pub mod Adding
pub mod Updates
