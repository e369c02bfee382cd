pub mod LoadLemmas
pub mod ChangeLemmas
pub mod AcceptLemmas
pub mod BesideLemmas
