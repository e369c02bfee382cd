-- What public clauses cite.
pub mod LineText
pub mod script
pub mod Recording
pub mod LineReading
-- For the inside of the crate alone.
pub mod Connections
-- the words of crates below, handed on
pub use Rattle.plain_values.specs as plain_values
pub use Rattle.hex.specs as hex
