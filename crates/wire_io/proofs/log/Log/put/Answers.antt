use Rattle.std.proofs.Common.{rules, ap}
use Rattle.wire_io.proofs.log.LogLemmas.{items-put}
use Rattle.wire_io.proofs.log.Log.put.Goals as goal

-- the row and its octets stand last
pub returns : goal.returns
returns c = record {
  exact = items-put c.self.inside.rows.items _ c.self.inside.octets.items _ c.args.octets.now c.self.inside.apart.items c.args.self.now.items c.args.note c.args.conn c.self.invariant c.requires.whole
      (ap (λ log. log.items) c.self.view_is) (search rules) (search rules);
}
