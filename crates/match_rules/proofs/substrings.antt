pub mod SubstringsLemmas
