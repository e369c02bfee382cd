mod Examples
pub mod Theorems
-- the theorems of crates below, handed on
pub use Rattle.ldif_load.proofs as ldif_load_proofs
