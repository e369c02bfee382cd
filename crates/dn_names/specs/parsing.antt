-- what public clauses cite: grammar, spelling, meaning, printing and order
pub mod NameText
pub mod NameCause
