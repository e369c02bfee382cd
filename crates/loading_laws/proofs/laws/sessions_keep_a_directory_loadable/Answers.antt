-- Each answer leaves a loadable tree, and so do all.
use Rattle.session_hub.specs.session_model.Run.{run}
use Rattle.session_hub.specs.session_model.Replaying.{replayed}
use Rattle.session_hub.specs.Answering.{rules}
use Rattle.loading_laws.proofs.laws.SessionLemmas.{answer-loadable, run-loadable, replayed-loadable}
use Rattle.loading_laws.proofs.laws.sessions_keep_a_directory_loadable.Goals as goal

pub returns : goal.returns
returns c =
    let stays = c.a_loadable_tree_stays_loadable.ensures.exact in
    let loads = c.a_loadable_tree_loads_again.ensures.exact in
    let loaded = c.a_loadable_tree_loads_again.ensures.loaded in
    record {
      answers = answer-loadable stays;
      run = run-loadable stays;
      replay = replayed-loadable stays;
      run_loads = λ terms entries steps brings is. loads (run (rules terms) entries steps).tree (run-loadable stays terms entries steps brings is);
      replay_loads = λ terms entries events brings is. loads (replayed (rules terms) entries events).tree (replayed-loadable stays terms entries events brings is);
      dump_loads = λ terms text entries events octets is brings.
          loads (replayed (rules terms) entries events).tree (replayed-loadable stays terms entries events brings (loaded text entries octets is));
    }
