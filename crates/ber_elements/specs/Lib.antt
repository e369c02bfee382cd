-- what public clauses cite
pub mod write
pub mod Heading
pub mod Integer
pub mod Laws
