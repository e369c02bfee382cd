pub mod LawLemmas
pub mod PiecesLemmas
