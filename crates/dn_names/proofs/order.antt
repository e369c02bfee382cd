pub mod OrderLaws
pub mod PathKeyLaws
