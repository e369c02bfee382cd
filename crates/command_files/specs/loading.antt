pub mod Changing
pub mod Accepting
pub mod Loading
