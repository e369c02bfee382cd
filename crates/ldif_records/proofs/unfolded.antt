pub mod LogicalLemmas
