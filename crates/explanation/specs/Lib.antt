-- what public clauses cite
pub mod Explained
pub mod Questions
pub mod Cutting
pub mod NameWords
pub mod ItemWords
pub mod PermissionWords
pub mod Reading
pub mod Texts
-- for the inside of the crate alone
pub mod Candidates
