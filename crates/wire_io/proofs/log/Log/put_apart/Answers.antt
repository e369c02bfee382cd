use Rattle.std.proofs.Common.{rules, ap}
use Rattle.wire_io.proofs.log.LogLemmas.{items-apart}
use Rattle.wire_io.proofs.log.Log.put_apart.Goals as goal

-- the row and the item stand last
pub returns-clause-ok : goal.returns-clause-ok
returns-clause-ok c =
    items-apart c.self.inside.rows.items _ c.self.inside.octets.items c.self.inside.apart.items _ c.args.self.now.items c.args.item c.self.invariant
    (ap (λ log. log.items) c.self.view_is) (search rules) (search rules)
