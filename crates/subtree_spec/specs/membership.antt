-- what public clauses cite
pub mod Membership
pub mod Fronts
