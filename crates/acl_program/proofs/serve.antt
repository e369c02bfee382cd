pub mod StoreLemmas
pub mod CountLemmas
pub mod ServeLemmas
