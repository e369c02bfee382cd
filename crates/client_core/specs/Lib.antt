-- what public clauses cite
pub mod Words
pub mod Rows
pub mod Values
pub mod Faults
pub mod Picks
pub mod Requests
pub mod Asks
pub mod ReplyTexts
pub mod Scripts
-- for the inside of the crate alone
pub mod Steps
-- the words of crates below, handed on
pub use Rattle.filter_text.specs as filter_text
pub use Rattle.ldap_msg.specs as ldap_msg
pub use Rattle.ldif_records.specs as ldif_records
pub use Rattle.script_text.specs as script_text
