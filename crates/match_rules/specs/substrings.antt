-- what the contracts of public functions cite
pub mod Substrings
-- for the inside of the crate alone
pub mod PartsInOrder
