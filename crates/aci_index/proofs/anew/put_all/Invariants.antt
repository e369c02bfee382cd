-- Those that are left, put in what is kept so far, give what all give; and each has its place.
use Rattle.std.proofs.Common.{◌≡◌, length}
use Rattle.std.specs.Prelude.{fold}
use Rattle.std.specs.Vec.Iter.{into_iter_items}
use Rattle.aci_index.specs.Reach.{HaveRoom, put_one}
use Rattle.aci_index.proofs.anew.put_all.Given as goal

abbrev pub invariant-loop-one : goal.invariant-loop-one
invariant-loop-one l = record {
  room : HaveRoom (into_iter_items l.one-iterator) (length l.kept);
  exact : fold put_one l.kept (into_iter_items l.one-iterator) ≡ fold put_one l.fn.kept l.fn.list.items;
}
