pub mod RefinementLemmas
