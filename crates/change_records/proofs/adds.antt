pub mod AddSteps
