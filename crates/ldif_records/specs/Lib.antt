-- what public clauses cite
pub mod reading
pub mod lines
pub mod Fields
pub mod writing
