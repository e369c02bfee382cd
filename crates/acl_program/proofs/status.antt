pub mod OutcomeLemmas
