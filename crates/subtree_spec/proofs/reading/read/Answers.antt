-- The value that the text is written for decides.
use Rattle.subtree_spec.proofs.reading.ReadLemmas.{read_text, read_shape, read_nothing}
use Rattle.subtree_spec.proofs.reading.SubtreeNested.{reads_given}
use Rattle.subtree_spec.proofs.reading.read.Goals as goal

pub returns-clause-ok : goal.returns-clause-ok
returns-clause-ok c = read_text c.args.text.now c.read_all.result c.read_all.ensures.exact

pub returns-clause-given : goal.returns-clause-given
returns-clause-given c = reads_given c.args.text.now c.read_all.result c.read_all.ensures.exact

pub returns-clause-only : goal.returns-clause-only
returns-clause-only c = read_shape c.args.text.now c.read_all.result c.read_all.ensures.exact

pub returns-clause-outside : goal.returns-clause-outside
returns-clause-outside c = read_nothing c.args.text.now c.read_all.result c.read_all.ensures.exact
