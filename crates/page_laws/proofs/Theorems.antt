-- What crates above may cite of pages.
pub use Rattle.page_laws.proofs.laws.PageTwins.{page_replies-twins}
