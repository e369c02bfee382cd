pub mod PartPrints
pub mod SubtreePrints
pub mod SubtreeOnly
pub mod RoundTrip
