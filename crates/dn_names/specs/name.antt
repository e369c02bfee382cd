-- what public clauses cite: grammar, spelling, meaning, printing and order
pub mod Names
pub mod GoodNames
