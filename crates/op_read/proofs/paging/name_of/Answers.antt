-- Without an entry the name is empty.
use Rattle.std.proofs.Common.{◌∙◌, sym, ap, Option}
use Rattle.dir_tree.specs.dn_names.Printing.{print_name}
use Rattle.dir_tree.specs.Entry.{EntryInformation}
use Rattle.dir_tree.specs.tree.Numbered.{entry_of}
use Rattle.page_core.specs.Pages.{last_name}
use Rattle.op_read.specs.Seeing.{row_in, one_or_none}
use Rattle.op_read.proofs.paging.StartLemmas.{print-root}
use Rattle.op_read.proofs.paging.name_of.Goals as goal

pub returns-in-None : goal.returns-in-None
returns-in-None g c =
    let rows = g.D.Dir.rows c.args.asking.now.dir.now in
    let who = c.args.asking.now.who.now in
    record {
      ok = c.from_vec.ensures.exact ∙ c.new.ensures.items ∙ sym print-root
          ∙ ap (λ (found : Option EntryInformation). print_name (last_name (one_or_none (row_in rows who) found))) (c.in-None.ensures.exact ∙ ap (entry_of c.args.number.0) c.tree.ensures.exact);
    }
