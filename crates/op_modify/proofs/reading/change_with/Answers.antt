-- No two of the values match.
use Rattle.std.proofs.Common.{◌∙◌, sym, ap}
use Rattle.dir_tree.specs.Entry.{is_match}
use Rattle.op_add_delete.specs.reading.NewEntries.{repeats}
use Rattle.op_add_delete.proofs.Theorems.{distinct-repeats}
use Rattle.op_modify.proofs.reading.change_with.Goals as goal

pub new-requires : goal.new-requires
new-requires c =
    distinct-repeats is_match c.args.attribute.values.items
    (ap (repeats is_match) (sym c.deref.ensures.value) ∙ sym c.in-Ok-false.ensures.ok ∙ c.in-Ok-false.field-0-test)
