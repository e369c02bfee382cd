-- The root DSE alone is found by the empty name.
use Rattle.std.proofs.Common.{◌∙◌, ◌∷◌, [], List, ap, sym}
use Rattle.std.specs.Prelude.{if◌then◌else◌}
use Rattle.std.proofs.lemmas.Result.{on_ok_weaker}
use Rattle.ldap_msg.specs.declared.kinds.LdapResult.{LdapResult}
use Rattle.ldap_msg.specs.declared.kinds.Reply.{Reply}
use Rattle.ldap_msg.specs.declared.kinds.Reply.TheVariants as reply
use Rattle.ldap_msg.specs.declared.operations.Ending.TheVariants as ending
use Rattle.ldap_msg.specs.declared.operations.ResultCode.TheVariants as code
use Rattle.page_core.specs.read_model.Views.{result_of}
use Rattle.page_core.specs.read_model.RootEntry.{finds_root, root_entry, root_replies}
use Rattle.directory.specs.Asking.{view_in}
use Rattle.op_read.proofs.sending.PutsLemmas.{puts-same}
use Rattle.op_read.proofs.searching.AnsweringLemmas.{root-elsewhere, root-here, replies-behind}
use Rattle.op_read.proofs.searching.put_root_replies.Goals as goal

-- no entry has the empty name
pub returns-then-not-is_base-clause-ok : goal.returns-then-not-is_base-clause-ok
returns-then-not-is_base-clause-ok g c =
    let view = view_in (g.D.Dir.rows c.args.asking.now.dir.now) c.args.asking.now.who.now in
    on_ok_weaker c.put_done.result
    (λ put.
    puts-same c.args.asked.id _ _ c.args.out.now.items c.put_done.new.out.items
    (ap (λ (ended : LdapResult). reply.Ended ending.Done ended ∷ []) c.result_of.ensures.exact ∙ root-elsewhere view c.args.asked.request.now c.args.asked.subentries (sym c.is_base.ensures ∙ c.if-not-is_base.true)) put)
    c.put_done.ensures.ok

-- the base alone
pub returns-clause-ok : goal.returns-clause-ok
returns-clause-ok g c =
    let view = view_in (g.D.Dir.rows c.args.asking.now.dir.now) c.args.asking.now.who.now in
    let request = c.args.asked.request.now in
    let found : List Reply = if finds_root request c.args.asked.subentries then root_entry view request ∷ [] else [] in
    on_ok_weaker c.put_done-2.result
    (λ put.
    replies-behind c.args.asked.id c.args.out.now.items c.put_root.new.out.items c.put_done-2.new.out.items found (reply.Ended ending.Done (result_of code.Success) ∷ []) (root_replies view request c.args.asked.subentries)
    c.in_ok-put_root.ensures.ok
    (root-here view request c.args.asked.subentries (sym c.is_base.ensures ∙ c.if-not-is_base.false))
    (puts-same c.args.asked.id _ _ c.put_root.new.out.items c.put_done-2.new.out.items (ap (λ (ended : LdapResult). reply.Ended ending.Done ended ∷ []) c.result_of-2.ensures.exact) put))
    c.put_done-2.ensures.ok
