use Rattle.std.proofs.Common.{None, sym, ◌∙◌, subst}
use Rattle.dir_tree.specs.tree.Numbered.{entries_of}
use Rattle.session_hub.specs.Event.{step_of}
use Rattle.session_hub.specs.hub.Hubs.{held}
use Rattle.hush_watch.specs.Served.{Hears}
use Rattle.hush_watch.proofs.HubLemmas.{hears-whole}
use Rattle.hush_watch.proofs.watched.Watched.hear.Goals as goal

-- nothing was cut
pub returns : goal.returns
returns c = record {
  ok =
      subst (λ old. Hears (step_of c.args.event None) old (held (entries_of c.hear.new.dir) c.hear.new.self)) c.self.view_is
      (hears-whole c.self.inside.hub.bounds.terms c.args.event (held (entries_of c.self.inside.dir) c.self.inside.hub) (held (entries_of c.hear.new.dir) c.hear.new.self) c.self.invariant
      (c.an_event_is_heard_whole_where_nothing_was_cut.ensures.exact _ _ _ _ c.in_ok-hear.ensures.exact (sym c.was_cut.ensures ∙ c.if-was_cut.false)) c.in_ok-hear.ensures.run);
}
