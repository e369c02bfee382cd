-- The end of a page is a page of no entries.
use Rattle.op_read.proofs.sending.PutsLemmas.{on_ok_both, puts-end}
use Rattle.op_read.proofs.paging.put_end.Goals as goal

pub returns-clause-ok : goal.returns-clause-ok
returns-clause-ok c =
    on_ok_both c.put_page_end.result (puts-end c.args.id c.args.cookie.now c.args.out.now.items c.put_page_end.new.out.items) c.put_page_end.ensures.ok c.put_page_end.ensures.short
