-- what public clauses cite
pub mod Line
pub mod Command
