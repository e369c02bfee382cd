pub mod RenameSteps
