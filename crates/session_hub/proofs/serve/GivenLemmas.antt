-- What the link gave in a turn of a loop.
use Rattle.std.proofs.Common.{◌≡◌, ℕ, List, length, Ok, Err, refl, ap, ◌∙◌}
use Rattle.dir_tree.specs.plain_values.Counts.{NeverFalls}
use Rattle.dir_tree.proofs.plain_values_proofs.Theorems.{NeverFalls-trans}
use Rattle.session_model.specs.wire_io.declared.answers.Heard.{Heard as Answer}
use Rattle.session_model.specs.wire_io.declared.answers.NextFault.{NextFault}
use Rattle.session_model.specs.wire_io.Answers.{LinkCause, RefusalCause}
use Rattle.session_model.specs.wire_io.Playing.{NextPlays}
use Rattle.session_model.specs.wire_io.link.Telling.{NextTells}
use Rattle.session_model.proofs.wire_io_proofs.Theorems.{LinkCause-given, RefusalCause-never_falls}
use Rattle.session_hub.specs.serve.Loops.{buffer_length}
use Rattle.session_hub.specs.serve.Servers.{LinkState, ServerState, Stays}
use Rattle.session_hub.specs.serve.Turns.{failing_of}
use Rattle.session_hub.proofs.serve.LoopLemmas.{next_fails, failing_kept}
use Rattle.session_hub.proofs.serve.PlayLemmas.{plays_kept}

-- an event that the link gave, with what it told, played and counted
pub record Gave (old link : LinkState) (buf : List ℕ) (given : Answer) : Type 0 where
  pub long : length buf ≡ buffer_length
  pub tells : NextTells {E = NextFault} old.journal buf (Ok given) link.journal
  pub plays : NextPlays {E = NextFault} old.journal old.plan buf (Ok given) link.plan
  pub faults : link.faults ≡ old.faults
  pub store_faults : link.store_faults ≡ old.store_faults
  pub lost : NeverFalls old.lost link.lost
  pub refusals : NeverFalls old.refusals link.refusals

-- a link that gave no event
pub record GaveNone (old link : LinkState) : Type 0 where
  pub journal : link.journal ≡ old.journal
  pub plan : link.plan ≡ old.plan
  pub lost : NeverFalls old.lost link.lost
  pub refusals : NeverFalls old.refusals link.refusals

-- the same of what a link answers
pub gives : (old link : LinkState) (buf : List ℕ) (given : Answer) → length buf ≡ buffer_length → NextTells {E = NextFault} old.journal buf (Ok given) link.journal → NextPlays {E = NextFault} old.journal old.plan buf (Ok given) link.plan →
    LinkCause old.plan old.faults link.faults (Ok given) → link.store_faults ≡ old.store_faults → NeverFalls old.lost link.lost → RefusalCause old.refusals link.refusals (Ok given) → Gave old link buf given
gives old link buf given long tells plays cause store_kept lost refusals =
    record {
      long = long;
      tells = tells;
      plays = plays;
      faults = LinkCause-given old.plan old.faults link.faults given cause;
      store_faults = store_kept;
      lost = lost;
      refusals = RefusalCause-never_falls old.refusals link.refusals (Ok given) refusals;
    }

pub gives_none : (old link : LinkState) (buf : List ℕ) (f : NextFault) → NextTells {E = NextFault} old.journal buf (Err f) link.journal → NextPlays {E = NextFault} old.journal old.plan buf (Err f) link.plan →
    NeverFalls old.lost link.lost → RefusalCause {T = Answer} old.refusals link.refusals (Err f) → GaveNone old link
gives_none old link buf f tells plays lost refusals =
    record {
      journal = next_fails NextFault old.journal link.journal buf f tells;
      plan = plays_kept NextFault old.journal old.plan link.plan buf f plays;
      lost = lost;
      refusals = RefusalCause-never_falls {T = Answer} old.refusals link.refusals (Err f) refusals;
    }

-- what a turn keeps
pub record Follows (old new : ServerState) : Type 0 where
  pub borrows : new.borrows ≡ old.borrows
  pub bounds : new.hub.bounds ≡ old.hub.bounds
  pub failing : failing_of new.link.plan ≡ failing_of old.link.plan
  pub lost : NeverFalls old.link.lost new.link.lost
  pub refusals : NeverFalls old.link.refusals new.link.refusals

pub follows_given : (old new : ServerState) (link : LinkState) (buf : List ℕ) (given : Answer) → Gave old.link link buf given → Stays (record old { link = link }) new → Follows old new
follows_given old new link buf given gave stays =
    record {
      borrows = stays.borrows;
      bounds = stays.bounds;
      failing = ap failing_of stays.plan ∙ failing_kept old.link.journal old.link.plan link.plan buf given gave.plays;
      lost = NeverFalls-trans gave.lost stays.lost;
      refusals = NeverFalls-trans gave.refusals stays.refusals;
    }

pub follows_none : (old : ServerState) (link : LinkState) → GaveNone old.link link → Follows old (record old { link = link })
follows_none old link gave = record { borrows = refl; bounds = refl; failing = ap failing_of gave.plan; lost = gave.lost; refusals = gave.refusals }
