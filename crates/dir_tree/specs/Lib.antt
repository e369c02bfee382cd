-- what public clauses cite
pub mod Entry
pub mod attributes
pub mod EntryClasses
pub mod Points
pub mod tree
pub mod Scope
pub mod Refusals
pub mod Effects
pub mod Vacancy
-- for the inside of the crate alone
pub mod slots
pub mod Maps
pub mod Walk
pub mod Removals
-- the words of crates below, handed on
pub use Rattle.dn_names.specs as dn_names
pub use Rattle.schema_tables.specs as schema_tables
pub use Rattle.dn_names.specs.match_rules as match_rules
pub use Rattle.dn_names.specs.plain_values as plain_values
