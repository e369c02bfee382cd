pub mod TupleLemmas
pub mod CertifiedLemmas
