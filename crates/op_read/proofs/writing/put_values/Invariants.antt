-- The values so far were written that may be read.
use Rattle.std.proofs.Common.{◌≡◌, ◌++◌, take, filter}
use Rattle.acdf_filters.specs.Asking.{Value}
use Rattle.acdf_filters.specs.aci_item.declared.permission.Permission.TheVariants.{Read}
use Rattle.op_read.specs.Seeing.{row_in}
use Rattle.op_read.specs.Writing.{values_octets}
use Rattle.op_read.proofs.writing.put_values.Given as goal

abbrev pub invariant-loop-value : goal.invariant-loop-value
invariant-loop-value g l =
    l.out.items ≡ l.fn.out.items
    ++ values_octets (filter (λ value. (row_in (g.D.Dir.rows l.target.asking.now.dir.now) l.target.asking.now.who.now l.target.entry.now).allows (Value l.kind.0 value) Read) (take l.value-index l.values))
