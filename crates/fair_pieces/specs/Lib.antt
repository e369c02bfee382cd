-- what public clauses cite
pub mod Wide
pub mod Cuts
pub mod Keeping
pub mod Laws
