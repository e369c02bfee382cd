pub mod AfterLemmas
pub mod ContentLemmas
