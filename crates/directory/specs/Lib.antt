-- what public clauses cite
pub mod Asking
pub mod Targets
-- for the inside of the crate alone
pub mod Fronts
-- the words of a crate below, handed on
pub use Rattle.value_index.specs as value_index
