pub mod NamingLemmas
