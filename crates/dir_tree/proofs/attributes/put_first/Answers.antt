-- A new type goes last.
use Rattle.dir_tree.proofs.attributes.ChangeLemmas.{put_value-new}
use Rattle.dir_tree.proofs.attributes.put_first.Goals as goal

pub returns-clause-ok : goal.returns-clause-ok
returns-clause-ok c =
    rw (put_value-new c.args.kind.0 c.args.value _ c.requires)
    (rw c.one.ensures.exact at c.put_attribute.ensures.ok)
