pub mod SpotLemmas
