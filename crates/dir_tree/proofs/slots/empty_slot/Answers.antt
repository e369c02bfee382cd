-- Not every slot is full.
use Rattle.std.proofs.Common.{arith}
use Rattle.dir_tree.proofs.slots.CountLemmas.{count_full-all}
use Rattle.dir_tree.proofs.slots.empty_slot.Goals as goal

pub unreachable-requires : goal.unreachable-requires
unreachable-requires c =
    let full = count_full-all c.args.slots.now (λ id h. c.empty_from-in-None.ensures.empty c.in-None-empty_from.is id (omega arith) h) in
    omega (arith, full, c.requires)
