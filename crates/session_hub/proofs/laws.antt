pub mod GoodLemmas
pub mod WholeEventLemmas
pub mod TwinExamples
pub mod LimitLemmas
