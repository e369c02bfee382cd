-- what public clauses cite
pub mod load
pub mod Laws
-- for the inside of the crate alone
pub mod Steps
-- the words of crates below, handed on
pub use Rattle.schema_rules.specs as schema_rules
pub use Rattle.ldif_records.specs as ldif_records
