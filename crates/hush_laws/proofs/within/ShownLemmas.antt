-- What a requester is shown at or below a name, entry by entry.
use Rattle.std.proofs.Common.{◌≡◌, ℕ, Bool, false, ◌&&◌, ◌||◌, List, [], ◌∷◌, map, Some, None, refl, ap, ap₂, ◌∙◌}
use Rattle.std.specs.List.{AllByRecursion, list_any}
use Rattle.std.specs.Option.{option_map_or}
use Rattle.dir_tree.specs.dn_names.name.Names.{RdnSequence}
use Rattle.dir_tree.specs.Entry.{EntryInformation}
use Rattle.dir_tree.specs.Scope.{is_within, scoped}
use Rattle.dir_tree.specs.declared.scope.Scope.TheVariants.{Sub}
use Rattle.dir_tree.specs.tree.Numbered.{Numbered, IsNumberedTree, ids_of, entries_of, entry_of, suffix_of}
use Rattle.dir_tree.proofs.TreeTheorems.{scoped-Sub, own_entries}
use Rattle.op_read.specs.acdf_filters.declared.asking.Requester.{Requester}
use Rattle.op_read.specs.read_model.Views.{row_of, view_of}
use Rattle.op_read.specs.twin_laws.Twins.{is_shown, shows_within}
use Rattle.hush_laws.specs.Rows.{is_shown_within, is_number_shown}

-- by the numbers of rows, or by their entries
any-numbers : (test : EntryInformation → Bool) (rows part : List Numbered) → AllByRecursion (λ row. entry_of row.id rows ≡ Some row.entry) part
    → list_any (λ id. option_map_or test (entry_of id rows) false) (ids_of part) ≡ list_any test (entries_of part)
any-numbers test rows [] own = refl
any-numbers test rows (row ∷ part) own =
    ap₂ (λ here later. here || later) (ap (λ found. option_map_or test found false) own.0) (any-numbers test rows part own.1)

-- by entries, or by what is seen of them
any-seen : (top : RdnSequence) (all : List EntryInformation) (who : Requester) (entries : List EntryInformation)
    → list_any (is_shown_within top all who) entries ≡ list_any (λ row. is_within top row.entry && is_shown row) (map (row_of all who) entries)
any-seen top all who [] = refl
any-seen top all who (entry ∷ entries) = ap (λ later. is_shown_within top all who entry || later) (any-seen top all who entries)

pub shown-from_suffix : (top : RdnSequence) (who : Requester) (id : ℕ) (rows : List Numbered) → IsNumberedTree rows → suffix_of rows ≡ Some id
    → list_any (is_number_shown top rows who) (scoped Sub id rows) ≡ shows_within top (view_of (entries_of rows) who)
shown-from_suffix top who id rows tree first =
    ap (list_any (is_number_shown top rows who)) (scoped-Sub id rows tree first)
    ∙ any-numbers (is_shown_within top (entries_of rows) who) rows rows (own_entries rows tree.distinct)
    ∙ any-seen top (entries_of rows) who (entries_of rows)

pub shown-nowhere : (top : RdnSequence) (who : Requester) (rows : List Numbered) → suffix_of rows ≡ None
    → false ≡ shows_within top (view_of (entries_of rows) who)
shown-nowhere top who [] none = refl
shown-nowhere top who (row ∷ rows) none = absurd cc
