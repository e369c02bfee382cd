pub mod RecordLemmas
pub mod ReadsOnLemmas
pub mod NextLemmas
