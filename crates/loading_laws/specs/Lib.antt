-- what public clauses cite
pub mod LoadableTrees
