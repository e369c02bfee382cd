-- what public clauses cite
pub mod Users
pub mod Choices
