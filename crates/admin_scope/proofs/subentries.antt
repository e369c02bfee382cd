pub mod ListLemmas
pub mod FrontLemmas
pub mod LineLemmas
pub mod WalkLemmas
pub mod FindLemmas
