pub mod Examples
mod SavingExamples
