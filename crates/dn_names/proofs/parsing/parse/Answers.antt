-- What reading gives says which text it is, or why it is none.
use Rattle.dn_names.proofs.parsing.ParseLemmas.{NameText-Answers}
use Rattle.dn_names.proofs.parsing.CauseLemmas.{NameCause-Answers}
use Rattle.dn_names.proofs.parsing.parse.Goals as goal

pub returns-clause-ok : goal.returns-clause-ok
returns-clause-ok c = NameText-Answers c.parse_by.result c.args.octets.now c.parse_by.ensures.exact

pub returns-clause-cause : goal.returns-clause-cause
returns-clause-cause c = NameCause-Answers c.parse_by.result c.args.octets.now c.parse_by.ensures.exact
