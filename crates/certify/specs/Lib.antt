-- what public clauses cite
pub mod Lines
pub mod LastFilter
pub mod Certificate
pub mod Comparing
pub mod RightsTable
pub mod FormLines
pub mod Form
pub mod Verifying
pub mod Readable
-- for the inside of the crate alone
pub mod Making
-- the words of crates below, handed on
pub use Rattle.explanation.specs as explanation
