-- what public clauses cite
pub mod Applied
pub mod Replayed
pub mod Accepted
pub mod Laws
-- for the inside of the crate alone
pub mod Steps
-- the words of crates below, handed on
pub use Rattle.op_add_delete.specs as op_add_delete
pub use Rattle.change_records.specs as change_records
pub use Rattle.acdf_filters.specs.aci_item as aci_item
