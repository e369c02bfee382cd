-- An octet that is no backslash stands for itself.
use Rattle.std.proofs.lemmas.Bool.{ne_eqb}
use Rattle.line_text.proofs.reading.ReadingLemmas.{read_back-plain}
use Rattle.line_text.proofs.reading.first_octet.Goals as goal

pub returns-else-octet-eq92-clause-found : goal.returns-else-octet-eq92-clause-found
returns-else-octet-eq92-clause-found c = read_back-plain c.args.octet c.args.rest.now (ne_eqb c.args.octet 92 c.if-octet-eq92.false)
