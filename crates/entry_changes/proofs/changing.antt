pub mod RefusalLemmas
pub mod NameLemmas
