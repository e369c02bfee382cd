pub mod BareLemmas
pub mod OctetsLemmas
