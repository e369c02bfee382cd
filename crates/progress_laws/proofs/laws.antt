pub mod MomentLemmas
pub mod StepLemmas
pub mod LeavingLemmas
pub mod TakenLemmas
