-- what public clauses cite
pub mod Blocks
pub mod Laws
