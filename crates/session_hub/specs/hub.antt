-- what public clauses cite
pub mod Hubs
pub mod Following
