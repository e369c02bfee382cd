-- what public clauses cite
pub mod Contents
pub mod Messages
pub mod Heads
