pub mod LinesLemmas
pub mod PositionLemmas
