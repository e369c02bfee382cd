-- what public clauses cite
pub mod Grammar
pub mod Derivative
pub mod Place
pub mod Machine
