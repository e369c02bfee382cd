pub mod SoundLemmas
pub mod CompleteLemmas
