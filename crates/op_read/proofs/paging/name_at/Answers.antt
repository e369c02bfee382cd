-- Without a number the name is empty.
use Rattle.std.proofs.Common.{◌∙◌, sym, ap, Option}
use Rattle.dir_tree.specs.dn_names.Printing.{print_name}
use Rattle.dir_tree.specs.declared.number.EntryNo.{EntryNo}
use Rattle.page_core.specs.Pages.{last_name}
use Rattle.op_read.specs.Seeing.{rows_at}
use Rattle.op_read.proofs.paging.StartLemmas.{print-root}
use Rattle.op_read.proofs.paging.name_at.Goals as goal

pub returns-in-None : goal.returns-in-None
returns-in-None g c =
    let rows = g.D.Dir.rows c.args.asking.now.dir.now in
    let who = c.args.asking.now.who.now in
    record {
      ok = c.from_vec.ensures.exact ∙ c.new.ensures.items ∙ sym print-root
          ∙ ap (λ (number : Option EntryNo). print_name (last_name (rows_at rows who number))) (sym c.in-None.is);
    }
