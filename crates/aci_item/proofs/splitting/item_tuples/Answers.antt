-- One more permission is split.
use Rattle.std.proofs.Common.{map}
use Rattle.std.specs.Option.{unwrap_or}
use Rattle.aci_item.specs.AciTuples.{split}
use Rattle.aci_item.specs.item.Views.{items_of, item_permission_of, tuple_of}
use Rattle.aci_item.proofs.splitting.TupleLemmas.{split_loop}
use Rattle.aci_item.proofs.splitting.item_tuples.Goals as goal

pub loop-permission-preserved : goal.loop-permission-preserved
loop-permission-preserved c =
    split_loop item_permission_of (λ p. split c.args.item.now.level (unwrap_or p.precedence c.args.item.now.precedence) p.classes (items_of c.args.items.now.value) p.bits)
    (map tuple_of c.loop-permission.tuples.items) (map tuple_of c.put_split.new.tuples.items) c.args.permissions.now c.loop-permission.permission-index
    c.permission-item.result _ c.loop-permission-test.true c.permission-item.is (rw c.unwrap_or-precedence.ensures at c.in_ok-put_split.ensures.ok) c.loop-permission.invariant
