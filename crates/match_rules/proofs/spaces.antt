pub mod SpacesLemmas
