-- What public clauses cite.
pub mod Script
pub mod ScriptReading
