pub mod WeighLemmas
