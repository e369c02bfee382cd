-- what public clauses cite
pub mod Escapes
pub mod Lines
-- the words of crates below, handed on
pub use Rattle.dn_names.specs as dn_names
