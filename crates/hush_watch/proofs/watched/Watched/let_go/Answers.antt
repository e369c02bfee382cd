use Rattle.std.proofs.Common.{true, false, refl, sym, ◌∙◌, subst}
use Rattle.dir_tree.specs.tree.Numbered.{entries_of}
use Rattle.session_hub.specs.hub.Hubs.{held}
use Rattle.hush_watch.specs.Served.{HangsUp}
use Rattle.hush_watch.proofs.HubLemmas.{hangs-up}
use Rattle.hush_watch.proofs.watched.Watched.let_go.Goals as goal

-- the connection is closing
pub returns-then-closing : goal.returns-then-closing
returns-then-closing c =
    subst (λ old. HangsUp c.args.conn old (held (entries_of c.self.inside.dir) c.drop_conn.new.self)) c.self.view_is
    (hangs-up c.args.conn _ (entries_of c.self.inside.dir) c.self.inside.hub c.took.new.self c.drop_conn.new.self true c.took.ensures.run (sym c.if-closing.true ∙ c.closing.ensures.exact) c.drop_conn.ensures.exact)

-- or not
pub returns-else-closing : goal.returns-else-closing
returns-else-closing c =
    subst (λ old. HangsUp c.args.conn old (held (entries_of c.self.inside.dir) c.took.new.self)) c.self.view_is
    (hangs-up c.args.conn _ (entries_of c.self.inside.dir) c.self.inside.hub c.took.new.self c.took.new.self false c.took.ensures.run (sym c.if-closing.false ∙ c.closing.ensures.exact) refl)
