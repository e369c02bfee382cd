pub mod NewcomerLemmas
