pub mod ContentSteps
