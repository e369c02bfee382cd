pub mod Examples
pub mod Theorems
-- the theorems of crates below, handed on
pub use Rattle.session_model.proofs as session_model_proofs
