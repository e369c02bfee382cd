pub mod PlaceLemmas
pub mod IdleLemmas
