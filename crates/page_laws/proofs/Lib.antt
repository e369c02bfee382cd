pub mod Theorems
mod Examples
