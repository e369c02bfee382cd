-- what public clauses cite
pub mod Weighing
pub mod LastFilters
