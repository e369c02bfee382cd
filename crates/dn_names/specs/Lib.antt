-- what public clauses cite: grammar, spelling, meaning, printing and order
pub mod Classes
pub mod NameGrammar
pub mod Spelling
pub mod GoodPlaces
pub mod Limits
pub mod name
pub mod NameOrder
pub mod path
pub mod value
pub mod Resolving
pub mod parsing
pub mod Printing
pub mod NameValues
-- for the inside of the crate alone: the machine that reads, of which public laws say what it gives
pub mod Modes
pub mod Reading
pub mod Texts
pub mod KeyReading
-- the words of crates below, handed on
pub use Rattle.match_rules.specs as match_rules
pub use Rattle.plain_values.specs as plain_values
