-- what public clauses cite
pub mod Items
pub mod Views
