pub mod StartLemmas
pub mod PageLemmas
pub mod CaseLemmas
pub mod TwinLemmas
