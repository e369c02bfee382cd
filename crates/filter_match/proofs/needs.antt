pub mod NeedsLemmas
