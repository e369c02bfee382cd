-- what public clauses cite
pub mod element
pub mod components
pub mod Layouts
pub mod Spellings
pub mod Ranges
pub mod Laws
