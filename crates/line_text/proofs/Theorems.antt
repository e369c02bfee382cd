-- What crates above may cite of texts in one line and of lines.
pub use Rattle.line_text.proofs.laws.EscapedLemmas.{read_back-escaped}
pub use Rattle.line_text.proofs.laws.NameLemmas.{NameText-one_line, read_name-one_line}
