-- The new path key comes in, the old one goes, and the slot takes the entry.
use Rattle.std.proofs.Common.{ℕ, ap, ◌∙◌, Some, set, Vec, Global}
use Rattle.std.specs.Ordering.{nat_cmp}
use Rattle.std.specs.Map.{values_of, remove_entry}
use Rattle.std.specs.BTreeMap.{is_at, insert_entry}
use Rattle.std.specs.Cmp.Lexicographic.{slice_cmp}
use Rattle.dn_names.specs.path.PathKeys.{path_key}
use Rattle.dir_tree.specs.slots.Slots.{numbers_in}
use Rattle.dir_tree.proofs.tree.KeptLemmas.{slot_known}
use Rattle.dir_tree.proofs.tree.MappedLemmas.{ChangedMap, changed_path}
use Rattle.dir_tree.proofs.tree.Tree.change_path.Goals as goal

pub replace_entry-old-requires : goal.replace_entry-old-requires
replace_entry-old-requires c = slot_known c.self.inside.slots.items (values_of c.self.inside.places.entries) c.args.no.0 c.requires.may.entry c.self.invariant.kept (rw c.self.view_is c.requires.may.known)

changed : (c : goal.After-remove-number) → ChangedMap (λ (key : Vec ℕ Global). key.items) (set c.self.inside.slots.items c.args.no.0 (Some c.args.entry)) (remove_entry (is_at (λ key. slice_cmp nat_cmp c.as_slice.result.now key.items)) (insert_entry (λ one other. slice_cmp nat_cmp one.items other.items) c.self.inside.places.entries c.in_ok-path.path c.args.no.0)) (numbers_in c.in_ok-numbers.numbers.items) c.args.no.0 c.replace_entry-old.result c.args.entry c.args.self.now
changed c =
    changed_path (λ (key : Vec ℕ Global). key.items) c.self.inside.slots.items c.self.inside.places.entries (numbers_in c.self.inside.subentries.items) c.self.invariant
    c.args.no.0 c.replace_entry-old.result c.args.entry c.replace_entry-old.ensures.found (numbers_in c.in_ok-numbers.numbers.items) c.in_ok-numbers.ensures.ok
    c.in_ok-path.path c.as_slice.result.now (c.in_ok-path.ensures.ok ∙ ap path_key c.name.ensures.exact) (c.as_slice.ensures.value ∙ c.path.ensures.exact ∙ ap path_key c.name-2.ensures.exact)
    c.args.self.now c.self.view_is
    c.requires.may c.requires.called

-- the number is listed in its new place, where the entry is an access control subentry
pub invariant_of-self-2 : goal.invariant_of-self-2
invariant_of-self-2 c = rw (c.replace_entry-old.ensures.exact, c.remove-number.ensures.entries, c.in_ok-insert.ensures.entries) (changed c).mapped

pub returns : goal.returns
returns c = record {
  exact = record {
    found = (changed c).known;
    left = rw (c.replace_entry-old.ensures.exact, c.remove-number.ensures.entries, c.in_ok-insert.ensures.entries) (changed c).shown;
  };
}
