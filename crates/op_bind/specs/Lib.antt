-- what public clauses cite
pub mod Passwords
pub mod Binds
