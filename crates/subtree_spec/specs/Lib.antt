-- what public clauses cite
pub mod Subtrees
pub mod Parts
pub mod SubtreeText
pub mod SubtreePrinted
pub mod GoodSubtrees
pub mod membership
-- for the inside of the crate alone
pub mod Excluding
