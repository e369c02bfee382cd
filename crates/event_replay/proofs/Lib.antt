pub mod Theorems
-- the theorems of crates below, handed on
pub use Rattle.session_hub.proofs as session_hub_proofs
