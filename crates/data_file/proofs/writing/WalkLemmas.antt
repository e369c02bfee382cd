-- Each entry is found by its number, so the records of those from the suffix on are those of all.
use Rattle.std.proofs.Common.{◌≡◌, ℕ, List, [], ◌∷◌, ◌++◌, Some, None, refl, ap, ◌∙◌}
use Rattle.std.specs.Prelude.{flat_map}
use Rattle.std.specs.List.{AllByRecursion}
use Rattle.std.specs.Option.{option_map_or}
use Rattle.dir_tree.specs.Scope.{scoped}
use Rattle.dir_tree.specs.declared.scope.Scope.TheVariants.{Sub}
use Rattle.dir_tree.specs.tree.Numbered.{Numbered, ids_of, entry_of, suffix_of, IsNumberedTree, entries_of}
use Rattle.dir_tree.proofs.TreeTheorems.{scoped-Sub, own_entries}
use Rattle.ldif_load.specs.ldif_records.writing.WrittenFile.{written_record, written_records}
use Rattle.data_file.specs.Steps.{text_at}

-- the records of numbers by which their entries are found are those of the entries
texts_found : (rows items : List Numbered) → AllByRecursion (λ row. entry_of row.id rows ≡ Some row.entry) items → flat_map (text_at rows) (ids_of items) ≡ written_records (entries_of items)
texts_found rows [] found = refl
texts_found rows (row ∷ items) found =
    ap (λ entry. option_map_or written_record entry [] ++ flat_map (text_at rows) (ids_of items)) found.0
    ∙ ap (λ later. written_record row.entry ++ later) (texts_found rows items found.1)

pub written_records-below : (rows : List Numbered) (suffix : ℕ) → IsNumberedTree rows → suffix_of rows ≡ Some suffix → flat_map (text_at rows) (scoped Sub suffix rows) ≡ written_records (entries_of rows)
written_records-below rows suffix tree is =
    ap (flat_map (text_at rows)) (scoped-Sub suffix rows tree is) ∙ texts_found rows rows (own_entries rows tree.distinct)

pub written_records-none : (rows : List Numbered) → suffix_of rows ≡ None → written_records (entries_of rows) ≡ []
written_records-none [] none = refl
written_records-none (row ∷ rows) none = absurd cc
