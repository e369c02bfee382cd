-- what public clauses cite
pub mod SampleEntries
