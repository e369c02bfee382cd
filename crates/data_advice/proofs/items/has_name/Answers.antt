-- A number is found exactly where an entry has the name.
use Rattle.std.proofs.Common.{◌∙◌, sym, ap}
use Rattle.std.specs.Prelude.{is_some}
use Rattle.dir_tree.proofs.TreeTheorems.{has_name-find}
use Rattle.data_advice.proofs.items.has_name.Goals as goal

pub returns-in-Some : goal.returns-in-Some
returns-in-Some c = record { exact = ap is_some c.in-Some.ensures.exact ∙ sym (has_name-find c.args.name.now c.args.tree.now) }

pub returns-in-None : goal.returns-in-None
returns-in-None c = record { exact = ap is_some c.in-None.ensures.exact ∙ sym (has_name-find c.args.name.now c.args.tree.now) }
