pub mod TwinLemmas
