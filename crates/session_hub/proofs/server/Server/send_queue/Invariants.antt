use Rattle.std.proofs.Common.{length}
use Rattle.dir_tree.specs.tree.Numbered.{entries_of}
use Rattle.session_model.specs.Kept.{queue_of}
use Rattle.session_hub.specs.serve.Servers.{ServerState, OnlySettles, state_of}
use Rattle.session_hub.specs.Adding.{Goes, IsDue}
use Rattle.session_hub.proofs.server.Server.send_queue.Given as goal

-- the connection is still due
abbrev pub invariant-sending : goal.invariant-sending
invariant-sending g l =
    let now : ServerState =
    record {
      hub = l.self-inside.hub;
      entries = entries_of (g.D.Dir.rows l.self-inside.dir.now);
      due = l.self-inside.waiting.due.items;
      on_hold = l.self-inside.waiting.on_hold.items;
      link = state_of g.L.Link l.self-inside.link.now;
      borrows = (l.self-inside.dir.ghost_name, l.self-inside.link.ghost_name);
    } in
    record {
      adds : Goes (IsDue l.conn) (IsDue l.conn) l.fn.self now;
      settles : OnlySettles l.fn.self now;
    }

abbrev pub decreases-sending : goal.decreases-sending
decreases-sending g l = length (queue_of l.conn l.self-inside.hub.kept)
