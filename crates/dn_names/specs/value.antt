-- what public clauses cite: grammar, spelling, meaning, printing and order
pub mod Values
-- for the inside of the crate alone: the machine that reads, of which public laws say what it gives
pub mod Pieces
