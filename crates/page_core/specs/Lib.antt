-- what public clauses cite
pub mod Values
pub mod Endings
pub mod Starts
pub mod Pages
pub mod Laws
-- the words of crates below, handed on
pub use Rattle.read_model.specs as read_model
