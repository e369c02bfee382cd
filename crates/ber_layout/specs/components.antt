-- what public clauses cite
pub mod Flags
pub mod Components
