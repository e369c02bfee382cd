-- What crates above may cite: a text gives events exactly where it is a script of them, and a line
-- exactly where it is its first bad one.
pub use Rattle.script_text.proofs.laws.TextLemmas.{event_of-some, Spells-read}
pub use Rattle.script_text.proofs.laws.LawLemmas.{script_of-ok, IsScript-read, script_of-err, IsFirstBadLine-read}
pub use Rattle.script_text.proofs.script.OrderlyLemmas.{IsOrderly, script_of-orderly}
