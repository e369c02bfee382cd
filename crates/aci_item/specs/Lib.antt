-- what public clauses cite
pub mod Level
pub mod Permission
pub mod item
pub mod AciTuples
pub mod ItemPrinted
pub mod Sets
pub mod members
pub mod AciText
-- what the rules of entries are said in: they and a decision share them
pub mod Listed
pub mod EntryRule
pub mod Rules
-- for the inside of the crate alone
pub mod Rows
-- the words of crates below, handed on
pub use Rattle.subtree_spec.specs as subtree_spec
pub use Rattle.gser_tree.specs as gser_tree
