-- what public clauses cite
pub mod Table
pub mod command
pub mod Number
pub mod Address
-- for the inside of the crate alone
pub mod parser
