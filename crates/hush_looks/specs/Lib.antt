-- what public clauses cite
pub mod Due
pub mod Looks
-- the words of crates below, handed on
pub use Rattle.hush_laws.specs as hush_laws
