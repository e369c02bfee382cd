pub mod CountLemmas
pub mod SlotLemmas
