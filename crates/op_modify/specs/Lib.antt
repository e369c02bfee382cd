-- what public clauses cite
pub mod ReadChanges
pub mod Modifying
pub mod ReadRenames
pub mod Renames
-- for the inside of the crate alone
pub mod Steps
-- the words of crates below, handed on
pub use Rattle.op_add_delete.specs as op_add_delete
pub use Rattle.acdf_filters.specs.aci_item as aci_item
pub use Rattle.ldap_msg.specs as ldap_msg
