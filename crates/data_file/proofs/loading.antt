pub mod LoadLemmas
