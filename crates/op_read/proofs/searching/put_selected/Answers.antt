-- What was sent, and how the search ended.
use Rattle.std.proofs.Common.{◌∷◌, [], ℕ, ap, subst}
use Rattle.std.proofs.lemmas.Result.{on_ok_weaker}
use Rattle.dir_tree.specs.Scope.{scoped}
use Rattle.ldap_msg.specs.declared.kinds.LdapResult.{LdapResult}
use Rattle.ldap_msg.specs.declared.kinds.Reply.TheVariants as reply
use Rattle.ldap_msg.specs.declared.operations.Ending.TheVariants as ending
use Rattle.page_core.specs.read_model.Views.{View}
use Rattle.page_core.specs.read_model.Selecting.{selected, is_shown}
use Rattle.directory.specs.Asking.{view_in}
use Rattle.op_read.specs.Seeing.{rows_at, scope_of}
use Rattle.op_read.specs.Sending.{shown_among, IsSent}
use Rattle.op_read.proofs.sending.PutsLemmas.{puts-same}
use Rattle.op_read.proofs.sending.SendingLemmas.{found-replies}
use Rattle.op_read.proofs.selecting.SelectingLemmas.{selected-among}
use Rattle.op_read.proofs.searching.put_selected.Goals as goal

pub returns-clause-ok : goal.returns-clause-ok
returns-clause-ok g c =
    let rows = g.D.Dir.rows c.args.target.now.asking.now.dir.now in
    let who = c.args.target.now.asking.now.who.now in
    let search = c.args.search.now in
    let request = search.request.now in
    let middle = c.put_scope.new.out.items in
    let found = c.in_ok-found.found in
    let at = rows_at rows who in
    let test = is_shown request search.subentries in
    let ids = scoped (scope_of request.scope) c.args.target.now.number.0 rows in
    let limited = subst (λ (limit : ℕ). IsSent at limit search.id request (shown_among test rows who ids) c.args.out.now.items middle found) c.requires.limit c.in_ok-found.ensures.ok in
    let sent = subst (λ (rows : View). IsSent at request.size search.id request rows c.args.out.now.items middle found)
    (selected-among request search.subentries c.args.base.now c.args.target.now.number.0 rows who c.requires.tree c.requires.found) limited in
    on_ok_weaker c.put_done.result
    (λ put.
    found-replies at search.id (view_in rows who) (selected (view_in rows who) request search.subentries c.args.base.now) request c.args.base.now c.args.out.now.items middle c.put_done.new.out.items found
    sent
    (puts-same search.id _ _ middle c.put_done.new.out.items (ap (λ (ended : LdapResult). reply.Ended ending.Done ended ∷ []) c.in_ok-ended.ensures.ok) put))
    c.put_done.ensures.ok
