use Rattle.std.proofs.Common.{ap, sym, subst}
use Rattle.dir_tree.specs.tree.Numbered.{entries_of}
use Rattle.session_hub.specs.session_model.Run.{start}
use Rattle.session_hub.specs.Answering.{rules}
use Rattle.session_hub.specs.hub.Hubs.{HubState, held}
use Rattle.session_hub.specs.Terms.{no_terms}
use Rattle.hush_watch.specs.Served.{Holds}
use Rattle.hush_watch.proofs.HubLemmas.{holds-start}
use Rattle.hush_watch.proofs.watched.Watched.new.Goals as goal

-- a hub that holds nothing, with nothing bounded
pub returns : goal.returns
returns c = record {
  ok =
      subst (λ rows. Holds (start (rules no_terms) (entries_of c.args.tree)) (held (entries_of rows) c.in_ok-hub.hub)) (sym c.in_ok-dir.ensures.ok)
      (holds-start c.in_ok-hub.hub (entries_of c.args.tree) (ap (λ (hub : HubState). hub.bounds.terms) c.in_ok-hub.ensures.ok) c.in_ok-hub.ensures.run);
}
