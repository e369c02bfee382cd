-- In a copy of the map the new path key comes in and the old one goes, and the slot takes the entry.
use Rattle.std.proofs.Common.{ℕ, ap, ◌∙◌, Some, set, Vec, Global}
use Rattle.std.specs.Ordering.{nat_cmp}
use Rattle.std.specs.Map.{values_of, remove_entry}
use Rattle.std.specs.BTreeMap.{is_at, insert_entry}
use Rattle.std.specs.Cmp.Lexicographic.{slice_cmp}
use Rattle.dn_names.specs.path.PathKeys.{path_key}
use Rattle.dir_tree.specs.slots.Slots.{rows_of, numbers_in}
use Rattle.dir_tree.proofs.tree.KeptLemmas.{slot_known}
use Rattle.dir_tree.proofs.paths.CopyLemmas.{values-same}
use Rattle.dir_tree.proofs.tree.MappedLemmas.{ChangedMap, changed_path, mapped_copy, set_back}
use Rattle.dir_tree.proofs.tree.Tree.change_path_read.Given.{Over}
use Rattle.dir_tree.proofs.tree.Tree.change_path_read.Goals.{After-remove-number}
use Rattle.dir_tree.proofs.tree.Tree.change_path_read.Goals as goal

pub replace_entry-old-requires : goal.replace_entry-old-requires
replace_entry-old-requires g c = slot_known c.self.inside.slots.items (values_of c.self.inside.places.entries) c.args.no.0 c.requires.may.entry c.self.invariant.kept (rw c.self.view_is c.requires.may.known)

changed : (g : Over) (c : After-remove-number g) → ChangedMap (λ (key : Vec ℕ Global). key.items) (set c.self.inside.slots.items c.args.no.0 (Some c.args.entry)) (remove_entry (is_at (λ key. slice_cmp nat_cmp c.as_slice.result.now key.items)) (insert_entry (λ one other. slice_cmp nat_cmp one.items other.items) c.in_ok-places.places.entries c.in_ok-path.path c.args.no.0)) (numbers_in c.in_ok-numbers.numbers.items) c.args.no.0 c.replace_entry-old.result c.args.entry c.args.self.now
changed g c =
    changed_path (λ (key : Vec ℕ Global). key.items) c.self.inside.slots.items c.in_ok-places.places.entries (numbers_in c.self.inside.subentries.items)
    (mapped_copy (λ (key : Vec ℕ Global). key.items) c.self.inside.slots.items c.self.inside.places.entries c.in_ok-places.places.entries (numbers_in c.self.inside.subentries.items) c.in_ok-places.ensures.ok c.self.invariant)
    c.args.no.0 c.replace_entry-old.result c.args.entry c.replace_entry-old.ensures.found (numbers_in c.in_ok-numbers.numbers.items) c.in_ok-numbers.ensures.ok
    c.in_ok-path.path c.as_slice.result.now (c.in_ok-path.ensures.ok ∙ ap path_key c.name.ensures.exact) (c.as_slice.ensures.value ∙ c.path.ensures.exact ∙ ap path_key c.name-2.ensures.exact)
    c.args.self.now (ap (rows_of c.self.inside.slots.items) (values-same (λ (key : Vec ℕ Global). key.items) c.self.inside.places.entries c.in_ok-places.places.entries c.in_ok-places.ensures.ok) ∙ c.self.view_is)
    c.requires.may c.requires.called

-- the number is listed in its new place, where the entry is an access control subentry
pub invariant_of-self : goal.invariant_of-self
invariant_of-self g c = rw (c.replace_entry-old.ensures.exact, c.replace-places.ensures.after, c.remove-number.ensures.entries, c.in_ok-insert.ensures.entries, c.replace-numbers.ensures.after) (changed g (goal.at.invariant_of-self g c).After-remove-number).mapped

pub invariant_of-self-in-Ok-1 : goal.invariant_of-self-in-Ok-1
invariant_of-self-in-Ok-1 g c = rw (c.replace_entry-old.ensures.exact, c.replace-places.ensures.after, c.remove-number.ensures.entries, c.in_ok-insert.ensures.entries, c.replace-numbers.ensures.after) (changed g (goal.at.invariant_of-self-in-Ok-1 g c).After-remove-number).mapped

-- and where the reader wants memory all is as it was
pub invariant_of-self-in-Err : goal.invariant_of-self-in-Err
invariant_of-self-in-Err g c = rw (c.replace_entry-new.ensures.exact, c.replace_entry-old.ensures.exact, set_back c.self.inside.slots.items c.args.no.0 c.replace_entry-old.result (Some c.args.entry) c.replace_entry-old.ensures.found, c.replace-places.ensures.value, c.replace-numbers.ensures.value) c.self.invariant

pub returns-in-Ok-clause-exact : goal.returns-in-Ok-clause-exact
returns-in-Ok-clause-exact g c = record {
  found = (changed g (goal.at.returns-in-Ok-clause-exact g c).After-remove-number).known;
  left = rw (c.replace_entry-old.ensures.exact, c.replace-places.ensures.after, c.remove-number.ensures.entries, c.in_ok-insert.ensures.entries) (changed g (goal.at.returns-in-Ok-clause-exact g c).After-remove-number).shown;
}

pub returns-in-Err-clause-exact : goal.returns-in-Err-clause-exact
returns-in-Err-clause-exact g c = rw (c.replace_entry-new.ensures.exact, c.replace_entry-old.ensures.exact, set_back c.self.inside.slots.items c.args.no.0 c.replace_entry-old.result (Some c.args.entry) c.replace_entry-old.ensures.found, c.replace-places.ensures.value) c.self.view_is
