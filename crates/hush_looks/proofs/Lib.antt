pub mod Theorems
-- the theorems of crates below, handed on
pub use Rattle.hush_laws.proofs as hush_laws_proofs
