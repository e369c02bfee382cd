pub mod Examples
pub mod Theorems
pub mod TreeExamples
pub mod TreeTheorems
-- the theorems of crates below, handed on
pub use Rattle.dn_names.proofs as dn_names_proofs
pub use Rattle.schema_tables.proofs as schema_tables_proofs
pub use Rattle.dn_names.proofs.plain_values_proofs as plain_values_proofs
pub use Rattle.base_laws.proofs as base_laws_proofs
