-- what public clauses cite
pub mod Complete
pub mod Asked
pub mod Made
