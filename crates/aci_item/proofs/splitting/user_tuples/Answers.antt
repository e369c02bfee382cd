-- One more permission is split.
use Rattle.std.proofs.Common.{map}
use Rattle.std.specs.Option.{unwrap_or}
use Rattle.aci_item.specs.AciTuples.{split}
use Rattle.aci_item.specs.item.Views.{classes_of, user_permission_of, tuple_of}
use Rattle.aci_item.proofs.splitting.TupleLemmas.{split_loop}
use Rattle.aci_item.proofs.splitting.user_tuples.Goals as goal

pub loop-permission-preserved : goal.loop-permission-preserved
loop-permission-preserved c =
    split_loop user_permission_of (λ p. split c.args.item.now.level (unwrap_or p.precedence c.args.item.now.precedence) (classes_of c.args.classes.now.value) p.items p.bits)
    (map tuple_of c.loop-permission.tuples.items) (map tuple_of c.put_split.new.tuples.items) c.args.permissions.now c.loop-permission.permission-index
    c.permission-item.result _ c.loop-permission-test.true c.permission-item.is (rw c.unwrap_or-own.ensures at c.in_ok-put_split.ensures.ok) c.loop-permission.invariant
