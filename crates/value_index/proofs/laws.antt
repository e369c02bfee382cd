pub mod ChangeLaws
pub mod HolderLaws
