-- What is kept is a tree.
use Rattle.std.proofs.Common.{◌≡◌, ℕ, ◌<◌, ◌≤◌, ◌==◌, Bool, true, List, [], ◌∷◌, length, Option, refl, sym, ap, ◌∙◌, arith}
use Rattle.std.specs.List.{AllByRecursion, list_any}
use Rattle.std.specs.Ordering.{is_lt}
use Rattle.std.specs.declared.cmp.Ordering.TheVariants.{Less}
use Rattle.std.proofs.lemmas.Bool.{or_left, or_right, eq-eqb}
use Rattle.std.proofs.lemmas.List.{length-map}
use Rattle.dn_names.specs.NameOrder.{name_cmp}
use Rattle.dir_tree.specs.Entry.{EntryInformation}
use Rattle.dir_tree.specs.tree.Trees.{is_named, is_before, has_name, superior_name, IsRooted}
use Rattle.dir_tree.specs.tree.Numbered.{Numbered, entries_of, IsNumberedTree}
use Rattle.dir_tree.specs.slots.Slots.{rows_of, has_id, has_before, HasSuperiors, IsOrderedTree, IsKept}
use Rattle.dir_tree.proofs.tree.NameLemmas.{same_itself}
use Rattle.dir_tree.proofs.slots.CountLemmas.{full_within}
use Rattle.dir_tree.proofs.slots.SlotLemmas.{distinct_rows, rows_fit}

-- the entries of a part are entries of the whole
record IsPart (part whole : List EntryInformation) : Type 0 where
  within : (test : EntryInformation → Bool) → list_any test part ≡ true → list_any test whole ≡ true

later_part : (entry : EntryInformation) (part whole : List EntryInformation) → IsPart (entry ∷ part) whole → IsPart part whole
later_part entry part whole is = record { within = λ test h. is.within test (or_right (test entry) (list_any test part) h) }

superiors_of : (first : EntryInformation) (entries part : List EntryInformation) → HasSuperiors (first ∷ entries) → IsPart part (first ∷ entries) → AllByRecursion (λ later. name_cmp first.name later.name ≡ Less) part → AllByRecursion (λ later. has_name (superior_name later.name) (first ∷ entries) ≡ true) part
superiors_of first entries [] rooted is h = tt
superiors_of first entries (entry ∷ part) rooted is h = (
  rooted entry.name
      (is.within (is_named entry.name) (or_left (is_named entry.name entry) (has_name entry.name part) (same_itself entry.name)))
      (or_left (is_before first.name entry.name) (has_before entry.name entries) (ap is_lt h.0)),
  superiors_of first entries part rooted (later_part entry part (first ∷ entries) is) h.1,
)

-- each entry but the first has its superior
pub IsRooted-ordered : (entries : List EntryInformation) → IsOrderedTree entries → IsRooted entries
IsRooted-ordered [] ordered = tt
IsRooted-ordered (entry ∷ entries) ordered =
    superiors_of entry entries entries ordered.rooted (later_part entry entries (entry ∷ entries) (record { within = λ test h. h })) ordered.sorted.0

-- each number in use is one of a slot
numbers_within : (slots : List (Option EntryInformation)) (order part : List ℕ) → IsKept slots order → ((id : ℕ) → has_id id part ≡ true → has_id id order ≡ true) → AllByRecursion (λ row. row.id < length slots) (rows_of slots part)
numbers_within slots order [] kept is = tt
numbers_within slots order (id ∷ part) kept is =
    let used = is id (or_left (id == id) (has_id id part) (eq-eqb id id refl)) in
    (full_within slots id (sym (kept.used id) ∙ used), numbers_within slots order part kept (λ other h. is other (or_right (id == other) (has_id other part) h)))

pub numbers_below : (slots : List (Option EntryInformation)) (order : List ℕ) → IsKept slots order → AllByRecursion (λ row. row.id < length slots) (rows_of slots order)
numbers_below slots order kept = numbers_within slots order order kept (λ id h. h)

numbers_fit : (most : ℕ) (rows : List Numbered) → most ≤ 200000 → AllByRecursion (λ row. row.id < most) rows → AllByRecursion (λ row. row.id < 200000) rows
numbers_fit most [] less h = tt
numbers_fit most (row ∷ rows) less h = (omega (arith, h.0), numbers_fit most rows less h.1)

-- a tree is kept
pub IsTree-kept : (slots : List (Option EntryInformation)) (order : List ℕ) → IsKept slots order → IsNumberedTree (rows_of slots order)
IsTree-kept slots order kept = record {
  tree = record {
    sorted = kept.ordered.sorted;
    rooted = IsRooted-ordered (entries_of (rows_of slots order)) kept.ordered;
    named = kept.ordered.named;
    fits =
        let same : length (entries_of (rows_of slots order)) ≡ length (rows_of slots order) =
        length-map (rows_of slots order) (λ (row : Numbered). row.entry) in
        omega (arith, same, rows_fit slots order kept);
  };
  distinct = distinct_rows slots order kept.ordered.sorted;
  numbers = numbers_fit (length slots) (rows_of slots order) kept.within (numbers_below slots order kept);
}
