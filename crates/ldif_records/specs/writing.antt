-- what public clauses cite
pub mod Written
pub mod WrittenFile
