pub mod DropLemmas
