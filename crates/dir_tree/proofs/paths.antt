pub mod PathLemmas
pub mod CopyLemmas
