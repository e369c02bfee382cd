pub mod RowLemmas
pub mod LastLemmas
pub mod PageLemmas
pub mod AnswerLemmas
pub mod ListingLemmas
pub mod PageTwins
