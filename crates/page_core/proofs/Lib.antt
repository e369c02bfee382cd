mod Examples
-- the theorems of crates below, handed on
pub use Rattle.ldap_msg.proofs as ldap_msg_proofs
