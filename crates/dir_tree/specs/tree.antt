-- what public clauses cite
pub mod Trees
pub mod Numbered
