pub mod IntegerLemmas
