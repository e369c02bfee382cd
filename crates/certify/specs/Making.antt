-- A certificate as a program makes it: subentries and items by the numbers of their entries, tuples item by item.
use Rattle.std.specs.Prelude.{◌≡◌, ℕ, List, [], ◌∷◌, ◌++◌, map, flat_map, if◌then◌else◌}
use Rattle.std.specs.Option.{option_map_or}
use Rattle.dir_tree.specs.Entry.{EntryInformation}
use Rattle.dir_tree.specs.Points.{is_subentry}
use Rattle.dir_tree.specs.Scope.{is_child}
use Rattle.dir_tree.specs.tree.Trees.{superior_name, named_in}
use Rattle.dir_tree.specs.tree.Numbered.{Numbered, entry_of, entries_of}
use Rattle.acdf_filters.specs.admin_scope.InForce.{in_force}
use Rattle.acdf_filters.specs.aci_item.AciTuples.{AciTuple}
use Rattle.acdf_filters.specs.Asking.{Asked}
use Rattle.acdf_filters.specs.Filters.{decided}
use Rattle.acdf_filters.specs.Granted.{placed_of}
use Rattle.acdf_filters.specs.Tuples.{TaggedTuples, items_in, prescriptive_aci, entry_aci, subentry_aci}
use Rattle.acdf_filters.specs.declared.question.Question.{Question}
use Rattle.acdf_filters.specs.declared.standing.Standing.{Standing}
use Rattle.acdf_filters.specs.weighing.Weighing.{asked_of, asked_ranks}
use Rattle.certify.specs.declared.certifying.Certified.{Certified}
use Rattle.certify.specs.Lines.{Line, whole, line_of}
use Rattle.certify.specs.LastFilter.{last_filter_by}
use Rattle.certify.specs.Certificate.{scope_line, tuple_text, certificate}

-- the line of a subentry, where it stands immediately below the point
abbrev pub scope_line_below : EntryInformation → EntryInformation → EntryInformation → List Line
scope_line_below entry point subentry = if is_child point.name subentry then scope_line entry point subentry ∷ [] else []

-- that of the entry of the number
abbrev pub scope_line_at : List Numbered → EntryInformation → EntryInformation → ℕ → List Line
scope_line_at rows entry point id = option_map_or (scope_line_below entry point) (entry_of id rows) []

-- the items of the values of the type of the entry of the number
abbrev pub items_at : List Numbered → ℕ → ℕ → List TaggedTuples
items_at rows kind id = option_map_or (items_in kind) (entry_of id rows) []

-- the items that an entry has from others
abbrev pub inherited_items : List EntryInformation → EntryInformation → List TaggedTuples
inherited_items entries entry =
    if is_subentry entry then option_map_or (items_in subentry_aci) (named_in (superior_name entry.name) entries) []
    else flat_map (items_in prescriptive_aci) (in_force entries entry)

-- all items whose tuples count for an entry
abbrev pub counting_items : List EntryInformation → EntryInformation → List TaggedTuples
counting_items entries entry = inherited_items entries entry ++ items_in entry_aci entry

-- the tuples of items
abbrev pub tuples_in : List TaggedTuples → List AciTuple
tuples_in items = flat_map (λ item. item.tuples) items

-- the line of a tuple of an item of the tag, by the state in which all tuples leave the decision
abbrev pub tuple_line_for : Question → Standing → List ℕ → AciTuple → Line
tuple_line_for question seen tag tuple =
    whole (tuple_text
    (last_filter_by (asked_of question) seen.precedence seen.rank seen.explicit tuple (asked_ranks question tuple)) tuple.grants tag)

-- those of an item's tuples
abbrev pub item_lines : Question → Standing → TaggedTuples → List Line
item_lines question seen item = map (tuple_line_for question seen item.tag) item.tuples

-- the lines are those of the certificate, and the decision is that of the filters
pub record IsCertified (rows : List Numbered) (entry : EntryInformation) (asked : Asked) (certified : Certified) : Type 0 where
  pub lines : map line_of certified.lines.items ≡ certificate (entries_of rows) asked entry
  pub granted : certified.granted ≡ decided asked (placed_of (entries_of rows) asked.who entry)
