-- what public clauses cite
pub mod Files
pub mod Loadable
-- for the inside of the crate alone
pub mod Steps
-- the words of crates below, handed on
pub use Rattle.ldif_load.specs as ldif_load
pub use Rattle.ldif_load.specs.ldif_records as ldif_records
