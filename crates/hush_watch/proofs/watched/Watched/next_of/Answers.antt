use Rattle.std.proofs.Common.{ap, sym, ◌∙◌}
use Rattle.session_hub.specs.session_model.Kept.{kept_of}
use Rattle.session_hub.specs.hub.Hubs.{unread_of}
use Rattle.hush_watch.specs.Served.{ServedHeld}
use Rattle.hush_watch.specs.NextMessages.{IsNextIn, ShowsNext}
use Rattle.hush_watch.proofs.HubLemmas.{shows-shut, shows-next, if_ok-map}
use Rattle.hush_watch.proofs.watched.Watched.next_of.Goals as goal

-- the connection is open
pub returns-then-is_open-clause-ok : goal.returns-then-is_open-clause-ok
returns-then-is_open-clause-ok c =
    if_ok-map (IsNextIn c.unread.result.now c.args.piece.now) (ShowsNext c.args.conn c.args.piece.now c.args.self.now) c.next_message.result
    (λ found next. shows-next c.args.conn c.unread.result.now c.args.piece.now c.args.self.now found (sym c.is_open.ensures.exact ∙ c.if-is_open.true)
    (c.unread.ensures.exact ∙ ap (λ (kept : ServedHeld). unread_of (kept_of c.args.conn kept.kept)) c.self.view_is) next)
    c.next_message.ensures.ok

-- or not
pub returns-else-is_open-clause-ok : goal.returns-else-is_open-clause-ok
returns-else-is_open-clause-ok c = shows-shut c.args.conn c.args.piece.now c.args.self.now (sym c.is_open.ensures.exact ∙ c.if-is_open.false)
