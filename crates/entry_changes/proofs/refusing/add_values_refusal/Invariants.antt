-- What refuses the values that are left refuses all: none of the others is refused.
use Rattle.std.proofs.Common.{◌≡◌, drop}
use Rattle.ldap_msg.specs.plain_values.Refusals.{first_some}
use Rattle.entry_changes.specs.Steps.{add_rows}
use Rattle.entry_changes.proofs.refusing.add_values_refusal.Given as goal

abbrev pub invariant-loop-index : goal.invariant-loop-index
invariant-loop-index g l =
    first_some (add_rows (g.A.Ask.asks l.asker) l.kind.0 l.there l.values)
    ≡ first_some (add_rows (g.A.Ask.asks l.asker) l.kind.0 (drop l.index l.there) (drop l.index l.values))
