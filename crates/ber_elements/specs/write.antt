-- what public clauses cite
pub mod Element
pub mod Spelling
