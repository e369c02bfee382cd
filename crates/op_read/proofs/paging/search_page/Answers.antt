-- What is sent over the tree is sent over its twins.
use Rattle.std.proofs.lemmas.Result.{on_ok_weaker}
use Rattle.dir_tree.specs.tree.Numbered.{entries_of}
use Rattle.op_read.proofs.paging.TwinLemmas.{page_alike}
use Rattle.op_read.proofs.paging.search_page.Goals as goal

pub returns-clause-ok : goal.returns-clause-ok
returns-clause-ok g c = on_ok_weaker c.append_page.result (λ puts. puts.said) c.append_page.ensures.ok

pub returns-clause-short : goal.returns-clause-short
returns-clause-short g c = on_ok_weaker c.append_page.result (λ puts. puts.short) c.append_page.ensures.ok

pub returns-clause-twins : goal.returns-clause-twins
returns-clause-twins g c =
    on_ok_weaker c.append_page.result
    (λ puts. page_alike c.args.who.now (entries_of (g.D.Dir.rows c.args.dir.now)) c.args.id c.args.request.now c.args.subentries c.args.page.now c.args.out.now.items _ puts.said)
    c.append_page.ensures.ok
