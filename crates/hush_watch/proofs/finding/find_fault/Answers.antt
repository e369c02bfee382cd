use Rattle.std.proofs.Common.{ap, sym, ◌∙◌, subst}
use Rattle.dir_tree.specs.tree.Numbered.{entries_of}
use Rattle.session_hub.specs.session_model.Run.{start}
use Rattle.session_hub.specs.Answering.{rules}
use Rattle.session_hub.specs.Terms.{no_terms}
use Rattle.event_replay.specs.Played.{played_steps}
use Rattle.hush_laws.specs.Hush.{hush_of_replay}
use Rattle.hush_watch.specs.Served.{Holds}
use Rattle.hush_watch.specs.Watching.{first_shown}
use Rattle.hush_watch.proofs.HubLemmas.{if_ok-map}
use Rattle.hush_watch.proofs.FindLemmas.{watched-start, hush-below, hush-above}
use Rattle.hush_watch.proofs.finding.find_fault.Goals as goal

-- the name is not below the suffix
pub returns-then-not-is_below_suffix : goal.returns-then-not-is_below_suffix
returns-then-not-is_below_suffix c = record {
  ok =
      hush-above c.args.number c.args.top.now (entries_of c.args.before) (played_steps c.args.events.now) (sym c.is_below_suffix.ensures.exact ∙ c.if-not-is_below_suffix.true)
      ∙ ap (λ entries. hush_of_replay no_terms entries (played_steps c.args.events.now) c.args.number c.args.top.now) c.requires.same;
}

-- nobody asks at the beginning
pub first_shown-requires-clause-begins : goal.first_shown-requires-clause-begins
first_shown-requires-clause-begins c =
    watched-start c.args.number c.args.top.now (entries_of c.in_ok-before.before) c.in_ok-watched.watched
    (subst (λ entries. Holds (start (rules no_terms) entries) c.in_ok-watched.watched) (sym c.requires.same ∙ ap entries_of (sym c.in_ok-before.ensures.ok)) c.in_ok-watched.ensures.ok)

-- what the events show first
pub returns : goal.returns
returns c = record {
  ok =
      if_ok-map _ _ c.first_shown.result
      (λ fault is. is
      ∙ ap (λ rows. first_shown c.args.number c.args.top.now (entries_of rows) (played_steps c.args.events.now)) c.in_ok-before.ensures.ok
      ∙ hush-below c.args.number c.args.top.now (entries_of c.args.before) (played_steps c.args.events.now) (sym c.is_below_suffix.ensures.exact ∙ c.if-not-is_below_suffix.false)
      ∙ ap (λ entries. hush_of_replay no_terms entries (played_steps c.args.events.now) c.args.number c.args.top.now) c.requires.same)
      c.first_shown.ensures.ok;
}
