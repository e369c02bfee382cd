mod Examples
pub mod Theorems
