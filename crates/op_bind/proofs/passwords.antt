pub mod PasswordLemmas
