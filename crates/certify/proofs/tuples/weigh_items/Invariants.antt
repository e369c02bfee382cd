-- What is weighed so far, and the items that are left.
use Rattle.std.proofs.Common.{◌≡◌, map, drop}
use Rattle.std.specs.Prelude.{fold}
use Rattle.acdf_filters.specs.weighing.Weighing.{tagged_of, weighed_for}
use Rattle.certify.specs.Making.{tuples_in}
use Rattle.certify.proofs.tuples.weigh_items.Given as goal

abbrev pub invariant-loop-item : goal.invariant-loop-item
invariant-loop-item l =
    fold (weighed_for l.question) l.seen (tuples_in (map tagged_of (drop l.item-index l.items)))
    ≡ fold (weighed_for l.question) l.initial.seen (tuples_in (map tagged_of l.items))
