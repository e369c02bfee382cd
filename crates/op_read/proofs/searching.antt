pub mod AnsweringLemmas
