-- The entry of a number is what its slot has.
use Rattle.std.specs.Map.{values_of}
use Rattle.std.proofs.Common.{sym, ap, ◌∙◌, List, Option}
use Rattle.dir_tree.specs.Entry.{EntryInformation}
use Rattle.dir_tree.specs.slots.Slots.{slot_of}
use Rattle.dir_tree.proofs.slots.SlotLemmas.{entry_of-rows_of}
use Rattle.dir_tree.proofs.tree.Tree.at.Goals as goal

pub returns : goal.returns
returns c = record {
  exact = rw (← c.self.view_is)
      (c.entry_at.ensures.exact
      ∙ ap (λ (slots : List (Option EntryInformation)). slot_of slots c.args.no.0) c.deref.ensures.value
      ∙ sym (entry_of-rows_of c.self.inside.slots.items (values_of c.self.inside.places.entries) c.args.no.0 (c.self.invariant.kept.used c.args.no.0)));
}
