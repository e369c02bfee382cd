pub mod OctetLemmas
pub mod ValueLemmas
pub mod EffectLemmas
pub mod ReadLemmas
pub mod ChangeLemmas
pub mod LayoutLemmas
pub mod SessionLemmas
