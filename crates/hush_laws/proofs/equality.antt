pub mod PointwiseLemmas
