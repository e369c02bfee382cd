pub mod ChangeSteps
