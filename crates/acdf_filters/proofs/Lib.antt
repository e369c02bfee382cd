pub mod Theorems
mod Examples
-- the theorems of crates below, handed on
pub use Rattle.admin_scope.proofs as admin_scope_proofs
