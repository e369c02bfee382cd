pub mod VerifyLemmas
