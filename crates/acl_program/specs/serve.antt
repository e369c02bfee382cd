-- what public clauses cite
pub mod Storing
pub mod Serving
-- for the inside of the crate alone
pub mod Listening
