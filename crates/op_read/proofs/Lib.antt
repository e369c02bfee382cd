pub mod Theorems
-- the theorems of crates below, handed on
pub use Rattle.twin_laws.proofs as twin_laws_proofs
