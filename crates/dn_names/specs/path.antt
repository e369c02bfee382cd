-- what public clauses cite: grammar, spelling, meaning, printing and order
pub mod PathKeys
-- for the inside of the crate alone: the machine that reads, of which public laws say what it gives
pub mod PathReading
