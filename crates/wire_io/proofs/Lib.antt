mod Examples
pub mod Theorems
-- the theorems of crates below, handed on
pub use Rattle.script_text.proofs as script_text_proofs
