-- what public clauses cite
pub mod Limits
-- for the inside of the crate alone
pub mod Connections
pub mod Queues
