-- what public clauses cite
pub mod program
pub mod Lines
pub mod serve
pub mod Helping
pub mod Answering
pub mod Sampling
pub mod Outcomes
-- for the inside of the crate alone
pub mod Troubles
pub mod Deciding
