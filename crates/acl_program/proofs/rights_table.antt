pub mod RightsLemmas
