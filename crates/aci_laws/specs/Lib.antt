-- what public clauses cite
pub mod GoodItems
pub mod MembersSorted
pub mod Exclusions
