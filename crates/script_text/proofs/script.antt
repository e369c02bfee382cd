pub mod ScriptLemmas
pub mod OrderlyLemmas
