-- what public clauses cite
pub mod Shapes
pub mod Looking
