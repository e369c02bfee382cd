pub mod KeptLemmas
pub mod DoubledLemmas
