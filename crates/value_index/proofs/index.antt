pub mod PostingLemmas
