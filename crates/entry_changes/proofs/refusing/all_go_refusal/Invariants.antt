-- What refuses the values that are left refuses all: none of the others is refused.
use Rattle.std.proofs.Common.{◌≡◌, map, drop}
use Rattle.ldap_msg.specs.plain_values.Refusals.{first_some}
use Rattle.entry_changes.specs.Change.{goes_refusal}
use Rattle.entry_changes.proofs.refusing.all_go_refusal.Given as goal

abbrev pub invariant-loop-value : goal.invariant-loop-value
invariant-loop-value g l =
    first_some (map (goes_refusal (g.A.Ask.asks l.asker) l.kind.0 l.values) l.old)
    ≡ first_some (map (goes_refusal (g.A.Ask.asks l.asker) l.kind.0 l.values) (drop l.value-index l.old))
