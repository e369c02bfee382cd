-- what public clauses cite
pub mod Parties
pub mod Terms
pub mod Controls
pub mod Limiting
pub mod WhoAmI
pub mod Answering
pub mod ShortAnswers
pub mod Rooms
pub mod FirstAnswers
pub mod connection
pub mod hub
pub mod Event
pub mod Twins
pub mod serve
-- for the inside of the crate alone
pub mod Outgoing
pub mod Answers
pub mod SimpleBinds
pub mod Telling
pub mod Adding
pub mod Waits
-- the words of crates below, handed on
pub use Rattle.session_model.specs as session_model
