use Rattle.std.proofs.Common.{◌==◌, cond, Some, None, refl, ap, sym, ◌∙◌}
use Rattle.std.specs.Prelude.{option_and_then}
use Rattle.dir_tree.specs.tree.Numbered.{entries_of}
use Rattle.hush_laws.specs.Requests.{failing_request}
use Rattle.hush_looks.specs.Looks.{failing_look}
use Rattle.hush_watch.proofs.HubLemmas.{if_ok-map}
use Rattle.hush_watch.proofs.OctetLemmas.{shows-message}
use Rattle.hush_watch.proofs.watch.Watch.watch_message.Goals as goal

-- the look found a part
pub returns-in-Some : goal.returns-in-Some
returns-in-Some c =
    let before = entries_of c.args.self.now.before.now in
    record {
      ok =
          shows-message c.args.self.now.number c.args.self.now.top.now before c.args.conn c.args.piece.now c.args.message.now c.args.watched.now c.hear.new.self (Some c.in-Some.part)
          (option_and_then (failing_request c.args.self.now.top.now) (cond (c.args.conn == c.args.self.now.number) (Some c.args.message.now) None)) c.in_ok-hear.ensures.ok
          (sym c.in-Some.is ∙ c.in_ok-part.ensures.ok
          ∙ ap (λ due. cond due (failing_look c.args.self.now.number c.args.self.now.top.now before c.hear.new.self.tree c.hear.new.self.kept) None) c.in_ok-due.ensures.ok) refl;
    }

-- or none, and the message is asked
pub returns-in-None : goal.returns-in-None
returns-in-None c =
    let before = entries_of c.args.self.now.before.now in
    record {
      ok =
          if_ok-map _ _ c.forbidding.result
          (λ part asked. shows-message c.args.self.now.number c.args.self.now.top.now before c.args.conn c.args.piece.now c.args.message.now c.args.watched.now c.hear.new.self None part c.in_ok-hear.ensures.ok
          (sym c.in-None.is ∙ c.in_ok-part.ensures.ok
          ∙ ap (λ due. cond due (failing_look c.args.self.now.number c.args.self.now.top.now before c.hear.new.self.tree c.hear.new.self.kept) None) c.in_ok-due.ensures.ok) asked)
          c.forbidding.ensures.ok;
    }
