mod Examples
mod FileExamples
pub mod Theorems
-- the theorems of crates below, handed on
pub use Rattle.schema_rules.proofs as schema_rules_proofs
pub use Rattle.ldif_records.proofs as ldif_records_proofs
