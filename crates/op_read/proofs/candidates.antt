pub mod CandidatesLemmas
