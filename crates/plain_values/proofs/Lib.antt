mod Examples
pub mod ResultLemmas
pub mod RefusalLemmas
pub mod NumeralLemmas
pub mod Theorems
