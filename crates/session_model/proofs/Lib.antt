pub mod Theorems
pub mod Examples
pub mod RunExamples
-- the theorems of crates below, handed on
pub use Rattle.wire_io.proofs as wire_io_proofs
pub use Rattle.ldap_msg.proofs as ldap_msg_proofs
