-- A front that is longer than the name is none.
use Rattle.std.proofs.Common.{◌<◌, ◌++◌, length, length-append, arith}
use Rattle.subtree_spec.proofs.membership.FrontLemmas.{prefix_short}
use Rattle.subtree_spec.proofs.membership.rest_at.Goals as goal

pub returns-then-len-2-clause-exact : goal.returns-then-len-2-clause-exact
returns-then-len-2-clause-exact c =
    let point = c.args.point.now in
    let base = c.args.base.now in
    let name = c.args.name.now in
    let short : length name < length (point ++ base) = omega (arith, length-append point base) in
    prefix_short (point ++ base) name short
