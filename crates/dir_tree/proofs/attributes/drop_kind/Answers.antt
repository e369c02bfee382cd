-- The key is taken out of the map.
use Rattle.std.proofs.Common.{sym, ap, ◌∙◌, is_some}
use Rattle.dir_tree.specs.attributes.Rows.{attributes_of}
use Rattle.dir_tree.proofs.attributes.ChangeLemmas.{has_kind-rows, kept-remove_entry}
use Rattle.dir_tree.proofs.attributes.drop_kind.Goals as goal

pub returns-clause-found : goal.returns-clause-found
returns-clause-found c =
    c.is_some.ensures ∙ ap is_some c.shift_remove.ensures.value
    ∙ sym (has_kind-rows c.args.kind c.args.attributes.now.entries)

pub returns-clause-exact : goal.returns-clause-exact
returns-clause-exact c =
    ap attributes_of c.shift_remove.ensures.entries
    ∙ kept-remove_entry c.args.kind c.args.attributes.now.entries c.len-count.ensures.unique
