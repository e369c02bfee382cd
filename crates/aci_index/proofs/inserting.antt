pub mod SubtreeLemmas
pub mod HeldLemmas
pub mod LeafLemmas
pub mod ReachLemmas
pub mod AroundLemmas
pub mod StandLemmas
