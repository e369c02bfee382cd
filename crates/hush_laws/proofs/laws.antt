pub mod EqualityLemmas
pub mod TwinLemmas
pub mod RequestLemmas
pub mod HushLemmas
pub mod ShowLemmas
pub mod DifferenceLemmas
