-- what public clauses cite
pub mod Classes
pub mod ItemGrammar
pub mod Items
pub mod FilterText
pub mod Nesting
pub mod Faults
pub mod Reading
pub mod Printing
-- for the inside of the crate alone: the machine that reads items
pub mod Modes
-- the words of crates below, handed on
pub use Rattle.ldap_filter.specs as ldap_filter
pub use Rattle.plain_values.specs as plain_values
