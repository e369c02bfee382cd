pub mod NameOrderLemmas
