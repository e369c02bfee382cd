pub mod Plan
pub mod Telling
