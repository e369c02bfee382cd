pub mod Theorems
mod Examples
-- the theorems of crates below, handed on
pub use Rattle.dir_tree.proofs as dir_tree_proofs
