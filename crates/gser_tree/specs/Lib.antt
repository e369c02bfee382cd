-- what public clauses cite
pub mod Strings
pub mod Lexemes
pub mod looking
pub mod Tree
pub mod TextOf
pub mod Reading
pub mod Writing
-- for the inside of the crate alone
pub mod Lexing
pub mod Growing
