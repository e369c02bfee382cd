pub mod PrintLemmas
pub mod OctetLemmas
pub mod StarLemmas
pub mod RestLemmas
pub mod TypeLemmas
pub mod AgainLemmas
