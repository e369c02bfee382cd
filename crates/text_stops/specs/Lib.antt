-- what public clauses cite
pub mod Stops
pub mod Standing
pub mod Table
pub mod Spots
