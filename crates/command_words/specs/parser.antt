-- for the inside of the crate alone
pub mod Parser
pub mod Asked
