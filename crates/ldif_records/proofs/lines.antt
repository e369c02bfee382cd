pub mod PhysicalLemmas
