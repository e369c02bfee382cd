-- what public clauses cite
pub mod Walks
-- for the inside of the crate alone
pub mod OnTheWay
