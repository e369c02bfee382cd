pub mod OidLemmas
