pub mod FileSteps
