-- what public clauses cite
pub mod Refinements
pub mod Areas
pub mod InForce
pub mod Finding
-- for the inside of the crate alone
pub mod Walking
