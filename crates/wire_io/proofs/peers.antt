pub mod PeersLemmas
