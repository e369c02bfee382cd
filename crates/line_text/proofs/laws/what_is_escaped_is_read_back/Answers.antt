-- By the lemma.
use Rattle.line_text.proofs.laws.EscapedLemmas.{read_back-escaped}
use Rattle.line_text.proofs.laws.what_is_escaped_is_read_back.Goals as goal

pub returns : goal.returns
returns c = read_back-escaped
