-- what public clauses cite
pub mod Rules
pub mod Run
pub mod Kept
pub mod Keeping
pub mod Journaled
pub mod Serving
pub mod Replaying
pub mod Joined
pub mod Working
pub mod AnsweredMessages
pub mod Purging
pub mod Places
pub mod Hearing
-- the words of crates below, handed on
pub use Rattle.wire_io.specs as wire_io
pub use Rattle.wire_io.specs.script_text as script_text
pub use Rattle.ldap_msg.specs as ldap_msg
pub use Rattle.ldap_msg.specs.ldap_filter as ldap_filter
pub use Rattle.ldap_msg.specs.ber_layout as ber_layout
pub use Rattle.ldap_msg.specs.ber_elements as ber_elements
