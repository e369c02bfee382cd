-- what public clauses cite
pub mod Asking
pub mod Written
pub mod Going
pub mod Crashes
pub mod Starting
