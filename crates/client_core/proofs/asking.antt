pub mod AskLemmas
pub mod OwnLemmas
