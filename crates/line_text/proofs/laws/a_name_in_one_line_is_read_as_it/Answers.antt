-- By the lemmas.
use Rattle.line_text.proofs.laws.NameLemmas.{NameText-one_line, read_name-one_line}
use Rattle.line_text.proofs.laws.a_name_in_one_line_is_read_as_it.Goals as goal

pub returns : goal.returns
returns c = record { text = NameText-one_line; exact = read_name-one_line }
