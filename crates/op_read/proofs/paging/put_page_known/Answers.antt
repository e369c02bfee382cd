-- The limit fits a page, or not.
use Rattle.std.proofs.Common.{◌∙◌, sym}
use Rattle.std.proofs.lemmas.Result.{on_ok_weaker}
use Rattle.dir_tree.specs.dn_names.parsing.NameText.{read_name}
use Rattle.page_core.specs.read_model.SearchReplies.{search_replies}
use Rattle.page_core.specs.Pages.{page_by, page_replies}
use Rattle.directory.specs.Asking.{view_in}
use Rattle.op_read.proofs.sending.PutsLemmas.{page-sent, unpaged-sent}
use Rattle.op_read.proofs.paging.CaseLemmas.{limit-fits, limit-pages}
use Rattle.op_read.proofs.paging.put_page_known.Goals as goal

pub returns-then-fits_page-clause-ok : goal.returns-then-fits_page-clause-ok
returns-then-fits_page-clause-ok g c =
    let view = view_in (g.D.Dir.rows c.args.asking.now.dir.now) c.args.asking.now.who.now in
    let asked = c.args.asked in
    let page = c.args.page.now in
    on_ok_weaker c.put_known.result
    (λ put.
    unpaged-sent asked.id c.args.out.now.items c.put_known.new.out.items (search_replies view asked.request.now asked.subentries) (page_replies view asked.request.now asked.subentries page) put
    (limit-fits view asked.request.now asked.subentries page (sym c.fits_page.ensures.exact ∙ c.if-fits_page.true)))
    c.put_known.ensures.ok

pub returns-clause-ok : goal.returns-clause-ok
returns-clause-ok g c =
    let view = view_in (g.D.Dir.rows c.args.asking.now.dir.now) c.args.asking.now.who.now in
    let asked = c.args.asked in
    let page = c.args.page.now in
    on_ok_weaker c.put_page_by.result
    (λ put.
    page-sent asked.id c.args.out.now.items c.put_page_by.new.out.items (page_by view asked.request.now asked.subentries page (read_name asked.request.now.base)) (page_replies view asked.request.now asked.subentries page) put
    (limit-pages view asked.request.now asked.subentries page (sym c.fits_page.ensures.exact ∙ c.if-fits_page.false)))
    c.put_page_by.ensures.ok
