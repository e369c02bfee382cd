mod Examples
pub mod Theorems
-- the theorems of crates below, handed on
pub use Rattle.dir_tree.proofs as dir_tree_proofs
pub use Rattle.wire_io.proofs as wire_io_proofs
pub use Rattle.wire_io.proofs.script_text_proofs as script_text_proofs
