-- what public clauses cite
pub mod Written
pub mod Reading
pub mod Files
pub mod Writable
pub mod Laws
