-- what public clauses cite
pub mod Views
pub mod Selecting
pub mod Choosing
pub mod RootEntry
pub mod SearchReplies
pub mod CompareReplies
-- the words of crates below, handed on
pub use Rattle.filter_match.specs as filter_match
