pub mod FoldingLemmas
