pub mod MadeSteps
