-- The trees of all places are good, since the first is.
use Rattle.session_hub.specs.session_model.Places.{places, places_of_replay}
use Rattle.session_hub.specs.Answering.{rules}
use Rattle.hush_laws.specs.Hush.{hush_of_run, hush_of_replay}
use Rattle.hush_laws.proofs.laws.HushLemmas.{hushed-from_none, none-from_hushed}
use Rattle.hush_laws.proofs.laws.nothing_breaks_a_hush_where_each_place_is_hushed.Goals as goal

pub returns : goal.returns
unfolding hush_of_run hush_of_replay
returns c = record {
  run = λ terms entries steps number top good. (
    hushed-from_none top entries (places (rules terms) number entries steps) (c.sessions_keep_a_directory_good.ensures.places terms number entries steps good),
    none-from_hushed top entries (places (rules terms) number entries steps),
  );
  replay = λ terms entries events number top good. (
    hushed-from_none top entries (places_of_replay (rules terms) number entries events) (c.sessions_keep_a_directory_good.ensures.replay_places terms number entries events good),
    none-from_hushed top entries (places_of_replay (rules terms) number entries events),
  );
}
