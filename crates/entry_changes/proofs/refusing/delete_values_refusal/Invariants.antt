-- What refuses the values that are left refuses all: none of the others is refused.
use Rattle.std.proofs.Common.{◌≡◌, map, drop}
use Rattle.ldap_msg.specs.plain_values.Refusals.{first_some}
use Rattle.dir_tree.specs.Entry.{values_of}
use Rattle.entry_changes.specs.Change.{delete_value_refusal}
use Rattle.entry_changes.specs.Steps.{staying}
use Rattle.entry_changes.proofs.refusing.delete_values_refusal.Given as goal

abbrev pub invariant-loop-value : goal.invariant-loop-value
invariant-loop-value g l =
    first_some (map (delete_value_refusal (g.A.Ask.asks l.asker) l.kind.0 (staying l.gone (values_of l.kind.0 l.entry.attributes))) l.values)
    ≡ first_some (map (delete_value_refusal (g.A.Ask.asks l.asker) l.kind.0 (staying l.gone (values_of l.kind.0 l.entry.attributes))) (drop l.value-index l.values))
