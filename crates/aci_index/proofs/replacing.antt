pub mod LeftLemmas
pub mod OwnLemmas
pub mod ReplacedLemmas
