-- The map takes the values in their place, or last.
use Rattle.std.proofs.Common.{ap, ◌∙◌}
use Rattle.dir_tree.specs.attributes.Rows.{attributes_of}
use Rattle.dir_tree.proofs.laws.SetLemmas.{attributes_of-insert_any}
use Rattle.dir_tree.proofs.attributes.set_values.Goals as goal

pub returns-clause-ok : goal.returns-clause-ok
returns-clause-ok c =
    ap attributes_of c.in_ok-insert.ensures.entries
    ∙ attributes_of-insert_any c.args.kind c.args.values c.args.attributes.now.entries
