-- A new key goes last.
use Rattle.std.proofs.Common.{ap, ◌∙◌}
use Rattle.dir_tree.specs.attributes.Rows.{attributes_of}
use Rattle.dir_tree.proofs.attributes.ChangeLemmas.{attributes_of-insert_entry}
use Rattle.dir_tree.proofs.attributes.put_attribute.Goals as goal

pub returns-clause-ok : goal.returns-clause-ok
returns-clause-ok c =
    ap attributes_of c.in_ok-insert.ensures.entries
    ∙ attributes_of-insert_entry c.args.kind c.args.values c.args.attributes.now.entries c.requires
