-- what public clauses cite
pub mod Granting
pub mod Changing
pub mod ChangeGranting
pub mod Updating
-- the words of crates below, handed on
pub use Rattle.op_modify.specs as op_modify
pub use Rattle.op_add_delete.specs as op_add_delete
