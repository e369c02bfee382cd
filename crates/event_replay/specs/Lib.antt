-- what public clauses cite
pub mod Played
-- for the inside of the crate alone
pub mod Copying
pub mod Playing
-- the words of crates below, handed on
pub use Rattle.session_hub.specs as session_hub
