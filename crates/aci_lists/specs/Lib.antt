-- what public clauses cite
pub mod Order
pub mod kept
