-- The slot takes the entry, and the path keys stay.
use Rattle.std.proofs.Common.{ℕ, Some, set, Vec, Global}
use Rattle.std.specs.Map.{values_of}
use Rattle.dir_tree.specs.slots.Slots.{numbers_in}
use Rattle.dir_tree.proofs.tree.KeptLemmas.{slot_known}
use Rattle.dir_tree.proofs.tree.MappedLemmas.{ChangedMap, changed_here, set_back}
use Rattle.dir_tree.proofs.tree.Tree.change_here.Given.{Over}
use Rattle.dir_tree.proofs.tree.Tree.change_here.Goals.{After-replace_entry-old}
use Rattle.dir_tree.proofs.tree.Tree.change_here.Goals as goal

pub replace_entry-old-requires : goal.replace_entry-old-requires
replace_entry-old-requires g c = slot_known c.self.inside.slots.items (values_of c.self.inside.places.entries) c.args.no.0 c.requires.may.entry c.self.invariant.kept (rw c.self.view_is c.requires.may.known)

changed : (g : Over) (c : After-replace_entry-old g) → ChangedMap (λ (key : Vec ℕ Global). key.items) (set c.self.inside.slots.items c.args.no.0 (Some c.args.entry)) c.self.inside.places.entries (numbers_in c.in_ok-numbers.numbers.items) c.args.no.0 c.replace_entry-old.result c.args.entry c.args.self.now
changed g c = changed_here (λ (key : Vec ℕ Global). key.items) c.self.inside.slots.items c.self.inside.places.entries (numbers_in c.self.inside.subentries.items) c.self.invariant c.args.no.0 c.replace_entry-old.result c.args.entry c.replace_entry-old.ensures.found (numbers_in c.in_ok-numbers.numbers.items) c.in_ok-numbers.ensures.ok c.args.self.now c.self.view_is c.requires.may c.requires.called

-- the number is listed in its new place, where the entry is an access control subentry
pub invariant_of-self : goal.invariant_of-self
invariant_of-self g c = rw (c.replace_entry-old.ensures.exact, c.replace-numbers.ensures.after) (changed g (goal.at.invariant_of-self g c).After-replace_entry-old).mapped

pub invariant_of-self-in-Ok-1 : goal.invariant_of-self-in-Ok-1
invariant_of-self-in-Ok-1 g c = rw (c.replace_entry-old.ensures.exact, c.replace-numbers.ensures.after) (changed g (goal.at.invariant_of-self-in-Ok-1 g c).After-replace_entry-old).mapped

-- and where the reader wants memory all is as it was
pub invariant_of-self-in-Err : goal.invariant_of-self-in-Err
invariant_of-self-in-Err g c = rw (c.replace_entry-new.ensures.exact, c.replace_entry-old.ensures.exact, set_back c.self.inside.slots.items c.args.no.0 c.replace_entry-old.result (Some c.args.entry) c.replace_entry-old.ensures.found, c.replace-numbers.ensures.value) c.self.invariant

pub returns-in-Ok-clause-exact : goal.returns-in-Ok-clause-exact
returns-in-Ok-clause-exact g c = record {
  found = (changed g (goal.at.returns-in-Ok-clause-exact g c).After-replace_entry-old).known;
  left = rw c.replace_entry-old.ensures.exact (changed g (goal.at.returns-in-Ok-clause-exact g c).After-replace_entry-old).shown;
}

pub returns-in-Err-clause-exact : goal.returns-in-Err-clause-exact
returns-in-Err-clause-exact g c = rw (c.replace_entry-new.ensures.exact, c.replace_entry-old.ensures.exact, set_back c.self.inside.slots.items c.args.no.0 c.replace_entry-old.result (Some c.args.entry) c.replace_entry-old.ensures.found) c.self.view_is
