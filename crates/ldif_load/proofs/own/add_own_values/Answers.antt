use Rattle.std.proofs.Common.{sym, ◌∙◌}
use Rattle.ldif_load.proofs.own.OwnLemmas.{pairs-there}
use Rattle.ldif_load.proofs.own.add_own_values.Goals as goal

-- all values are there
pub returns-then-has_pairs : goal.returns-then-has_pairs
returns-then-has_pairs c = record {
  ok = sym (pairs-there c.args.entry.now _ (rw (c.last_rdn.ensures.exact, c.name.ensures.exact) at (sym c.has_pairs.ensures.exact ∙ c.if-has_pairs.true)));
}
