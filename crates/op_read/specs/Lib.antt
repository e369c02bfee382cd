-- what public clauses cite
pub mod Short
pub mod Alike
-- for the inside of the crate alone
pub mod Seeing
pub mod Choices
pub mod Rooting
pub mod Sending
pub mod Writing
pub mod Candidates
pub mod Paging
-- the words of crates below, handed on
pub use Rattle.page_core.specs as page_core
pub use Rattle.page_core.specs.read_model as read_model
pub use Rattle.twin_laws.specs as twin_laws
pub use Rattle.directory.specs as directory
pub use Rattle.acdf_filters.specs as acdf_filters
pub use Rattle.acdf_filters.specs.aci_item as aci_item
