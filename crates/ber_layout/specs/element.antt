-- what public clauses cite
pub mod Pieces
pub mod Reading
