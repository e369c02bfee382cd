pub mod DropLemmas
pub mod RemovalLemmas
