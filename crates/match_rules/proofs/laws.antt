pub mod AsciiLemmas
pub mod CutLemmas
pub mod JoinLemmas
pub mod LawsLemmas
pub mod OrderLemmas
pub mod SpaceLawLemmas
