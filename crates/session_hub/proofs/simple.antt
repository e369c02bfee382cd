pub mod ControlLemmas
pub mod BindLemmas
