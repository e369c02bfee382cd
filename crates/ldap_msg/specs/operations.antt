-- what public clauses cite
pub mod Operations
pub mod OtherCodes
pub mod ResultCodes
