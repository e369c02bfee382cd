-- The type and the set are the layout's.
use Rattle.std.proofs.Common.{◌∙◌}
use Rattle.std.proofs.lemmas.Result.{on_ok_weaker}
use Rattle.op_read.specs.Seeing.{row_in}
use Rattle.op_read.proofs.writing.WritingLemmas.{parts-written}
use Rattle.op_read.proofs.writing.put_parts.Goals as goal

pub returns-clause-ok : goal.returns-clause-ok
returns-clause-ok g c =
    on_ok_weaker c.put_set.result
    (parts-written c.args.kinds_only (row_in (g.D.Dir.rows c.args.target.now.asking.now.dir.now) c.args.target.now.asking.now.who.now c.args.target.now.entry.now)
    (record { kind = c.args.kind.0; values = c.args.values.now })
    c.as_bytes.result.now c.args.out.now.items c.put_element.new.out.items c.put_set.new.out.items (c.as_bytes.ensures.value ∙ c.type_name.ensures.exact) c.in_ok-put_element.ensures.ok)
    c.put_set.ensures.ok
