-- The first number that is left is that of an entry, or is passed over.
use Rattle.std.proofs.Common.{ap, sym, ◌∙◌}
use Rattle.dir_tree.specs.tree.Numbered.{entries_at}
use Rattle.hush_laws.proofs.rows.RowLemmas.{entries_at-found}
use Rattle.hush_laws.proofs.rows.next_entry.Goals as goal

pub returns-in-Some-at-clause-found : goal.returns-in-Some-at-clause-found
returns-in-Some-at-clause-found c =
    sym c.loop-number.invariant.left ∙ ap (entries_at c.args.tree.now) c.in-Some.ensures.steps
    ∙ entries_at-found c.args.tree.now c.in-Some.number.0 c.in-Some-at.entry.now c.next.new.self (sym c.in-Some-at.ensures.exact)
