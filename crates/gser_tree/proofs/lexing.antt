pub mod LexingLemmas
