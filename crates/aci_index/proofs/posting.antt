pub mod PostedLemmas
