pub mod EventLemmas
pub mod LineLemmas
pub mod ScriptLemmas
