-- what public clauses cite
pub mod Loading
pub mod DataFile
