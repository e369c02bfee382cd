pub mod Examples
pub mod Theorems
-- the theorems of crates below, handed on
pub use Rattle.plain_values.proofs as plain_values_proofs
