pub mod StepLemmas
pub mod ComponentLemmas
pub mod EachLemmas
pub mod FaultLemmas
