-- what public clauses cite
pub mod Words
pub mod Statuses
pub mod Auditing
-- for the inside of the crate alone
pub mod Performing
-- the words of crates below, handed on
pub use Rattle.hush_laws.specs as hush_laws
pub use Rattle.command_files.specs as command_files
