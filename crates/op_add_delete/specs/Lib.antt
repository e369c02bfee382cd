-- what public clauses cite
pub mod Deleting
pub mod reading
pub mod adding
pub mod RuleCodes
-- the words of crates below, handed on
pub use Rattle.directory.specs as directory
pub use Rattle.read_model.specs as read_model
pub use Rattle.ldif_load.specs.schema_rules as schema_rules
