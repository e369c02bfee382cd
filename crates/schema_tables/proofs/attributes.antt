pub mod TableLemmas
pub mod AttributeLemmas
