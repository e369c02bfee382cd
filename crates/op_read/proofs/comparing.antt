pub mod AlikeLemmas
