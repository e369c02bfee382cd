use Rattle.std.proofs.Common.{ap, ◌∙◌}
use Rattle.session_hub.specs.session_model.Kept.{kept_of}
use Rattle.hush_watch.specs.Served.{ServedHeld}
use Rattle.hush_watch.specs.NextMessages.{is_open_in}
use Rattle.hush_watch.proofs.HubLemmas.{open-some, open-none}
use Rattle.hush_watch.proofs.watched.Watched.is_open.Goals as goal

-- it is held
pub returns-in-Some : goal.returns-in-Some
returns-in-Some c = record {
  exact =
      open-some c.args.conn c.self.inside.hub.kept _ c.closing.result c.in-Some.ensures.exact c.closing.ensures.exact
      ∙ ap (λ (kept : ServedHeld). is_open_in (kept_of c.args.conn kept.kept)) c.self.view_is;
}

-- or not
pub returns-in-None : goal.returns-in-None
returns-in-None c = record {
  exact =
      open-none (kept_of c.args.conn c.self.inside.hub.kept) c.in-None.ensures.exact
      ∙ ap (λ (kept : ServedHeld). is_open_in (kept_of c.args.conn kept.kept)) c.self.view_is;
}
