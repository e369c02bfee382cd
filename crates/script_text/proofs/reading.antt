pub mod ConnectionsLemmas
