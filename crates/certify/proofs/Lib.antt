mod Examples
mod FormExamples
pub mod ListLemmas
