-- Those passed over come before the name.
use Rattle.std.proofs.Common.{◌≡◌, ◌+◌, drop}
use Rattle.dir_tree.specs.slots.Slots.{numbers_in, place_among}
use Rattle.dir_tree.proofs.subentries.place_among.Given as goal

abbrev pub invariant-loop-no : goal.invariant-loop-no
invariant-loop-no l = record {
  passed : place_among l.name l.slots (numbers_in l.numbers) ≡ l.place + place_among l.name l.slots (numbers_in (drop l.no-index l.numbers));
  count : l.place ≡ l.no-index;
}
