-- what public clauses cite
pub mod Aside
-- for the inside of the crate alone
pub mod Kept
pub mod Steps
pub mod Reach
-- the words of crates below, handed on
pub use Rattle.aci_lists.specs as aci_lists
pub use Rattle.directory.specs as directory
pub use Rattle.acdf_filters.specs as acdf_filters
