-- what public clauses cite
pub mod Equality
pub mod TwinParts
pub mod Requests
pub mod Hush
pub mod Audits
-- for the inside of the crate alone
pub mod Rows
-- the words of crates below, handed on
pub use Rattle.session_hub.specs as session_hub
pub use Rattle.op_read.specs as op_read
