-- A slot pushed is empty; otherwise one is.
use Rattle.std.proofs.Common.{arith, ap, ◌∙◌}
use Rattle.dir_tree.specs.slots.Slots.{count_full}
use Rattle.dir_tree.proofs.slots.CountLemmas.{count_full-le, count_full-push}
use Rattle.dir_tree.proofs.slots.free_slot.Goals as goal

pub returns-then-len-full-clause-count : goal.returns-then-len-full-clause-count
returns-then-len-full-clause-count c =
    ap count_full c.push_reserved.ensures.items
    ∙ count_full-push c.make_room.new.slots.items
    ∙ ap count_full c.make_room.ensures.kept
    ∙ c.requires.counted

pub empty_slot-requires : goal.empty_slot-requires
empty_slot-requires c = rw c.deref.ensures.value (omega (arith, count_full-le c.args.slots.now.items, c.requires.counted, c.len-len.ensures))
