-- what public clauses cite
pub mod Asking
pub mod Tuples
pub mod users
pub mod Covering
pub mod Limits
pub mod Filters
pub mod Granted
pub mod Unseen
pub mod Standing
pub mod weighing
pub mod Memberships
-- for the inside of the crate alone
pub mod Named
-- the words of crates below, handed on
pub use Rattle.aci_item.specs as aci_item
pub use Rattle.admin_scope.specs as admin_scope
pub use Rattle.aci_item.specs.subtree_spec as subtree_spec
pub use Rattle.aci_item.specs.gser_tree as gser_tree
