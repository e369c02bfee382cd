-- The attributes so far are finished with what is left.
use Rattle.std.proofs.Common.{◌≡◌, false, drop}
use Rattle.std.specs.List.{list_any}
use Rattle.ldap_msg.specs.plain_values.Results.{◌>>=◌}
use Rattle.op_add_delete.specs.reading.NewEntries.{read_each, read_filled, lacks_values}
use Rattle.op_add_delete.specs.reading.Steps.{finished}
use Rattle.op_add_delete.proofs.reading.read_each.Given as goal

abbrev pub invariant-loop-item : goal.invariant-loop-item
invariant-loop-item l = record {
  name : l.entry.name ≡ l.fn.name;
  filled : list_any lacks_values (drop l.item-index l.given) ≡ false;
  left : read_filled l.given ≡ (read_each (drop l.item-index l.given) >>= finished l.twice l.entry.attributes);
}
