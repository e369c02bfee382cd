-- The entry goes out of its slot, and its path key out of the map.
use Rattle.std.proofs.Common.{ℕ, ap, sym, ◌∙◌, ◌≡◌, Some, None, false, set, subst, List, Vec, Global}
use Rattle.std.specs.Ordering.{nat_cmp}
use Rattle.std.specs.Map.{values_of, remove_entry}
use Rattle.std.specs.BTreeMap.{is_at}
use Rattle.std.specs.Cmp.Lexicographic.{slice_cmp}
use Rattle.dn_names.specs.path.PathKeys.{path_key}
use Rattle.dir_tree.specs.Entry.{EntryInformation}
use Rattle.dir_tree.specs.tree.Trees.{has_below}
use Rattle.dir_tree.specs.tree.Numbered.{Numbered, ids_of, subentry_rows, entries_of, entry_of}
use Rattle.dir_tree.specs.slots.Slots.{rows_of, unlisted}
use Rattle.dir_tree.proofs.slots.SlotLemmas.{entry_of-rows_of}
use Rattle.dir_tree.proofs.subentries.AccessLemmas.{unlisted-without}
use Rattle.dir_tree.proofs.tree.KeptLemmas.{slot_known}
use Rattle.dir_tree.proofs.paths.PathLemmas.{TakenPath, taken_path}
use Rattle.dir_tree.proofs.tree.Tree.take_out.Goals as goal

pub take_entry-entry-requires : goal.take_entry-entry-requires
take_entry-entry-requires c = slot_known c.self.inside.slots.items (values_of c.self.inside.places.entries) c.args.no.0 c.requires.entry c.self.invariant.kept (rw c.self.view_is c.requires.known)

known : (c : goal.After-drop_number) → entry_of c.args.no.0 (rows_of c.self.inside.slots.items (values_of c.self.inside.places.entries)) ≡ Some c.take_entry-entry.result
known c = entry_of-rows_of c.self.inside.slots.items (values_of c.self.inside.places.entries) c.args.no.0 (c.self.invariant.kept.used c.args.no.0) ∙ c.take_entry-entry.ensures.found

taken : (c : goal.After-drop_number) → TakenPath (λ (key : Vec ℕ Global). key.items) (set c.self.inside.slots.items c.args.no.0 None) (remove_entry (is_at (λ key. slice_cmp nat_cmp c.as_slice.result.now key.items)) c.self.inside.places.entries) c.args.no.0 (rows_of c.self.inside.slots.items (values_of c.self.inside.places.entries))
taken c =
    let asked : entry_of c.args.no.0 (rows_of c.self.inside.slots.items (values_of c.self.inside.places.entries)) ≡ Some c.requires.entry = rw c.self.view_is c.requires.known in
    let both : Some c.take_entry-entry.result ≡ Some c.requires.entry = sym (known c) ∙ asked in
    let same : c.requires.entry ≡ c.take_entry-entry.result = cc in
    let alone : has_below c.requires.entry.name (entries_of (rows_of c.self.inside.slots.items (values_of c.self.inside.places.entries))) ≡ false = rw c.self.view_is c.requires.alone in
    taken_path (λ (key : Vec ℕ Global). key.items) c.self.inside.slots.items c.self.inside.places.entries c.self.invariant.kept c.self.invariant.keyed c.args.no.0 c.take_entry-entry.result c.as_slice.result.now (known c)
    (c.as_slice.ensures.value ∙ c.path.ensures.exact ∙ ap path_key c.name.ensures.exact)
    (subst (λ (entry : EntryInformation). has_below entry.name (entries_of (rows_of c.self.inside.slots.items (values_of c.self.inside.places.entries))) ≡ false) same alone)

-- its number is listed no more
pub invariant_of-self : goal.invariant_of-self
invariant_of-self c =
    rw (c.take_entry-entry.ensures.exact, c.remove-number.ensures.entries) (record {
      kept = (taken c).kept;
      keyed = (taken c).keyed;
      listed =
          c.drop_number.ensures.exact
          ∙ ap (unlisted c.args.no.0) c.self.invariant.listed
          ∙ unlisted-without c.args.no.0 (rows_of c.self.inside.slots.items (values_of c.self.inside.places.entries))
          ∙ sym (ap (λ (rows : List Numbered). ids_of (subentry_rows rows)) (taken c).shown);
    })

pub returns : goal.returns
returns c = record {
  exact = record {
    found = rw (← c.self.view_is) (known c);
    left = rw (c.take_entry-entry.ensures.exact, c.remove-number.ensures.entries, ← c.self.view_is) (taken c).shown;
  };
}
