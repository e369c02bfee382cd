-- An empty slot takes the entry, and the map its path key.
use Rattle.std.proofs.Common.{arith, ◌∙◌, ◌≡◌, length, sym, ap, ℕ, List, Option, Some, set, Vec, Global}
use Rattle.std.proofs.lemmas.List.{length-map}
use Rattle.std.specs.Ordering.{nat_cmp}
use Rattle.std.specs.Map.{values_of}
use Rattle.std.specs.BTreeMap.{insert_entry}
use Rattle.std.specs.Cmp.Lexicographic.{slice_cmp}
use Rattle.dn_names.specs.path.PathKeys.{path_key}
use Rattle.dir_tree.specs.Entry.{EntryInformation}
use Rattle.dir_tree.specs.tree.Trees.{IsInOrder}
use Rattle.dir_tree.specs.tree.Numbered.{Numbered, ids_of, entries_of, subentry_rows, put_row}
use Rattle.dir_tree.specs.slots.Slots.{rows_of, numbers_in, listed_in}
use Rattle.dir_tree.proofs.subentries.AccessLemmas.{own_rows_of, listed-put}
use Rattle.dir_tree.proofs.slots.SlotLemmas.{rows_of-like}
use Rattle.dir_tree.proofs.tree.KeptLemmas.{room_in, kept_slots}
use Rattle.dir_tree.proofs.tree.MapLemmas.{keyed-like}
use Rattle.dir_tree.proofs.paths.PathLemmas.{PutPath, put_path}
use Rattle.dir_tree.proofs.tree.Tree.put_in.Goals as goal

as_many : (places : List (Vec ℕ Global × ℕ)) → length (values_of places) ≡ length places
as_many places = length-map places (λ (place : Vec ℕ Global × ℕ). place.1)

pub free_slot-requires-clause-counted : goal.free_slot-requires-clause-counted
free_slot-requires-clause-counted c = c.self.invariant.kept.count ∙ as_many c.self.inside.places.entries ∙ sym c.len.ensures.len

-- not all numbers are in use
pub free_slot-requires-clause-room : goal.free_slot-requires-clause-room
free_slot-requires-clause-room c =
    let room = room_in c.self.inside.slots.items (values_of c.self.inside.places.entries) c.args.self.now c.args.entry.name c.self.invariant.kept c.self.view_is c.requires.allowed in
    let many = as_many c.self.inside.places.entries in
    omega (arith, room, many, c.len.ensures.len)

put : (c : goal.After-self-1) → PutPath (λ (key : Vec ℕ Global). key.items) (set c.free_slot.new.slots.items c.in_ok-number.number (Some c.args.entry)) (insert_entry (λ one other. slice_cmp nat_cmp one.items other.items) c.self.inside.places.entries c.in_ok-path.path c.in_ok-number.number) c.in_ok-number.number c.args.entry c.args.self.now
put c =
    put_path (λ (key : Vec ℕ Global). key.items) c.self.inside.slots.items c.self.inside.places.entries c.self.invariant.kept c.self.invariant.keyed
    c.free_slot.new.slots.items c.args.self.now c.in_ok-number.number c.args.entry c.in_ok-path.path
    c.self.view_is c.free_slot.ensures.kept (c.free_slot.ensures.count ∙ c.len.ensures.len ∙ sym (as_many c.self.inside.places.entries)) c.free_slot.ensures.fits c.in_ok-number.ensures.ok.0 c.in_ok-number.ensures.ok.1
    c.requires.named c.requires.allowed (c.in_ok-path.ensures.ok ∙ ap path_key c.name.ensures.exact)

-- where there is no memory for a slot, the slots are the same at each number
pub invariant_of-self-in_err-number : goal.invariant_of-self-in_err-number
invariant_of-self-in_err-number c =
    let same = c.free_slot.ensures.kept in
    let like = rows_of-like c.self.inside.slots.items c.free_slot.new.slots.items (values_of c.self.inside.places.entries) (λ id _. same id) in
    rw c.make_room.ensures.kept (record {
      kept = kept_slots c.self.inside.slots.items c.free_slot.new.slots.items (values_of c.self.inside.places.entries) c.self.invariant.kept same (c.free_slot.ensures.count ∙ c.len.ensures.len ∙ sym (as_many c.self.inside.places.entries)) c.free_slot.ensures.fits;
      keyed = keyed-like (λ (key : Vec ℕ Global). key.items) c.self.inside.slots.items c.free_slot.new.slots.items c.self.inside.places.entries like c.self.invariant.keyed;
      listed = rw like c.self.invariant.listed;
    })

-- and so where there is none for the key
pub invariant_of-self-in_err-insert : goal.invariant_of-self-in_err-insert
invariant_of-self-in_err-insert c =
    let same = c.free_slot.ensures.kept in
    let like = rows_of-like c.self.inside.slots.items c.free_slot.new.slots.items (values_of c.self.inside.places.entries) (λ id _. same id) in
    rw (c.in_err-insert.ensures.err, c.make_room.ensures.kept) (record {
      kept = kept_slots c.self.inside.slots.items c.free_slot.new.slots.items (values_of c.self.inside.places.entries) c.self.invariant.kept same (c.free_slot.ensures.count ∙ c.len.ensures.len ∙ sym (as_many c.self.inside.places.entries)) c.free_slot.ensures.fits;
      keyed = keyed-like (λ (key : Vec ℕ Global). key.items) c.self.inside.slots.items c.free_slot.new.slots.items c.self.inside.places.entries like c.self.invariant.keyed;
      listed = rw like c.self.invariant.listed;
    })

-- the number of an access control subentry is listed in its place
pub invariant_of-self-2 : goal.invariant_of-self-2
invariant_of-self-2 c =
    let slots = c.free_slot.new.slots.items in
    let order : List ℕ = values_of c.self.inside.places.entries in
    let id = c.in_ok-number.number in
    let same : rows_of c.free_slot.new.slots.items (values_of c.self.inside.places.entries) ≡ rows_of c.self.inside.slots.items (values_of c.self.inside.places.entries) =
    rows_of-like c.self.inside.slots.items slots order (λ id _. c.free_slot.ensures.kept id) in
    let old : numbers_in c.make_room.new.numbers.items ≡ ids_of (subentry_rows (rows_of c.free_slot.new.slots.items (values_of c.self.inside.places.entries))) =
    ap numbers_in c.make_room.ensures.kept ∙ c.self.invariant.listed ∙ ap (λ (rows : List Numbered). ids_of (subentry_rows rows)) (sym same) in
    let sorted : IsInOrder (entries_of (rows_of c.free_slot.new.slots.items (values_of c.self.inside.places.entries))) = rw same c.self.invariant.kept.ordered.sorted in
    let listed =
    c.list_number.ensures.exact
    ∙ ap (λ (all : List (Option EntryInformation)). listed_in all c.args.entry id (numbers_in c.make_room.new.numbers.items)) c.deref.ensures.value
    ∙ ap (listed_in slots c.args.entry id) old
    ∙ listed-put slots id c.args.entry (rows_of slots order) (own_rows_of slots order) sorted
    ∙ ap (λ (rows : List Numbered). ids_of (subentry_rows rows)) (ap (put_row (record { id = id; entry = c.args.entry })) (same ∙ c.self.view_is) ∙ sym (put c).put.shown) in
    rw (c.fill_slot.ensures.exact, c.in_ok-insert.ensures.entries) (record { kept = (put c).put.kept; keyed = (put c).keyed; listed = listed })

pub returns-clause-exact : goal.returns-clause-exact
returns-clause-exact c = record {
  free = (put c).put.free;
  left = rw (c.fill_slot.ensures.exact, c.in_ok-insert.ensures.entries) (put c).put.shown;
}
