use Rattle.std.proofs.Common.{◌≡◌, IfOk, subst}
use Rattle.command_files.specs.client_core.ReplyTexts.{replies_text}
use Rattle.command_files.specs.client_core.Scripts.{ask_events}
use Rattle.command_files.specs.dir_tree.tree.Numbered.{entries_of}
use Rattle.acl_program.specs.Lines.{sent_over}
use Rattle.acl_program.proofs.asking.replies_text.Goals as goal

-- the directory is over the tree
pub returns : goal.returns
returns c = record {
  exact = subst (λ tree. IfOk c.served_text.result (λ text. text.items ≡ replies_text (sent_over (entries_of tree) (ask_events c.args.requests.now))))
      c.in_ok-dir.ensures.ok (c.served_text.ensures.sends (ask_events c.args.requests.now) c.in_ok-link.ensures.fresh);
}
