-- What reading gives says which text it is, or why it is none.
use Rattle.dn_names.proofs.parsing.ParseLemmas.{RdnText-Answers}
use Rattle.dn_names.proofs.parsing.CauseLemmas.{NameCause-Answers_rdn}
use Rattle.dn_names.proofs.parsing.parse_rdn.Goals as goal

pub returns-clause-ok : goal.returns-clause-ok
returns-clause-ok c = RdnText-Answers c.parse_rdn_by.result c.args.octets.now c.parse_rdn_by.ensures.exact

pub returns-clause-cause : goal.returns-clause-cause
returns-clause-cause c = NameCause-Answers_rdn c.parse_rdn_by.result c.args.octets.now c.parse_rdn_by.ensures.exact
