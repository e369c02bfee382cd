-- what public clauses cite
pub mod Lists
pub mod Holdings
