-- what public clauses cite
pub mod Hashes
pub mod Postings
pub mod Holders
-- for the inside of the crate alone
pub mod Candidates
-- the words of crates below, handed on
pub use Rattle.dir_tree.specs as dir_tree
