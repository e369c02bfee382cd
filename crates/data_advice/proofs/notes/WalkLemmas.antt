-- Each entry is found by its number, so what the numbers from the suffix on give is what all entries give.
use Rattle.std.proofs.Common.{◌≡◌, ℕ, Bool, true, false, List, [], ◌∷◌, ◌++◌, Some, None, refl, ap, ◌∙◌}
use Rattle.std.specs.Prelude.{◌||◌, suc, length, filter, flat_map, if◌then◌else◌}
use Rattle.std.specs.List.{AllByRecursion, list_any}
use Rattle.std.specs.Option.{option_map_or}
use Rattle.dir_tree.specs.Entry.{EntryInformation}
use Rattle.dir_tree.specs.Scope.{scoped}
use Rattle.dir_tree.specs.declared.scope.Scope.TheVariants.{Sub}
use Rattle.dir_tree.specs.tree.Numbered.{Numbered, ids_of, entry_of, suffix_of, IsNumberedTree, entries_of}
use Rattle.dir_tree.proofs.TreeTheorems.{scoped-Sub, own_entries}
use Rattle.data_advice.specs.Walking.{gives, passes}

-- the same of any of the rows
found_texts : (said : EntryInformation → List ℕ) (rows items : List Numbered) → AllByRecursion (λ row. entry_of row.id rows ≡ Some row.entry) items
    → flat_map (gives said rows) (ids_of items) ≡ flat_map said (entries_of items)
found_texts said rows [] found = refl
found_texts said rows (row ∷ items) found =
    ap (λ entry. option_map_or said entry [] ++ flat_map (gives said rows) (ids_of items)) found.0
    ∙ ap (λ later. said row.entry ++ later) (found_texts said rows items found.1)

found_any : (test : EntryInformation → Bool) (rows items : List Numbered) → AllByRecursion (λ row. entry_of row.id rows ≡ Some row.entry) items
    → list_any (passes test rows) (ids_of items) ≡ list_any test (entries_of items)
found_any test rows [] found = refl
found_any test rows (row ∷ items) found =
    ap (λ entry. option_map_or test entry false || list_any (passes test rows) (ids_of items)) found.0
    ∙ ap (λ later. test row.entry || later) (found_any test rows items found.1)

found_kept : (test : EntryInformation → Bool) (rows items : List Numbered) → AllByRecursion (λ row. entry_of row.id rows ≡ Some row.entry) items
    → length (filter (passes test rows) (ids_of items)) ≡ length (filter test (entries_of items))
found_kept test rows [] found = refl
found_kept test rows (row ∷ items) found =
    ap (λ entry. length (if option_map_or test entry false then row.id ∷ filter (passes test rows) (ids_of items) else filter (passes test rows) (ids_of items))) found.0
    ∙ one_more (test row.entry) row.id row.entry _ _ (found_kept test rows items found.1)
  where
    one_more : (kept : Bool) (id : ℕ) (entry : EntryInformation) (ids : List ℕ) (entries : List EntryInformation) → length ids ≡ length entries
        → length (if kept then id ∷ ids else ids) ≡ length (if kept then entry ∷ entries else entries)
    one_more true id entry ids entries same = ap (λ n. suc n) same
    one_more false id entry ids entries same = same

-- of all, from the suffix on
pub texts_below : (said : EntryInformation → List ℕ) (rows : List Numbered) (suffix : ℕ) → IsNumberedTree rows → suffix_of rows ≡ Some suffix
    → flat_map (gives said rows) (scoped Sub suffix rows) ≡ flat_map said (entries_of rows)
texts_below said rows suffix tree is =
    ap (flat_map (gives said rows)) (scoped-Sub suffix rows tree is) ∙ found_texts said rows rows (own_entries rows tree.distinct)

pub any_below : (test : EntryInformation → Bool) (rows : List Numbered) (suffix : ℕ) → IsNumberedTree rows → suffix_of rows ≡ Some suffix
    → list_any (passes test rows) (scoped Sub suffix rows) ≡ list_any test (entries_of rows)
any_below test rows suffix tree is =
    ap (list_any (passes test rows)) (scoped-Sub suffix rows tree is) ∙ found_any test rows rows (own_entries rows tree.distinct)

pub kept_below : (test : EntryInformation → Bool) (rows : List Numbered) (suffix : ℕ) → IsNumberedTree rows → suffix_of rows ≡ Some suffix
    → length (filter (passes test rows) (scoped Sub suffix rows)) ≡ length (filter test (entries_of rows))
kept_below test rows suffix tree is =
    ap (λ ids. length (filter (passes test rows) ids)) (scoped-Sub suffix rows tree is) ∙ found_kept test rows rows (own_entries rows tree.distinct)

-- without a suffix there is no entry
pub none_below : (rows : List Numbered) → suffix_of rows ≡ None → entries_of rows ≡ []
none_below [] none = refl
none_below (row ∷ rows) none = absurd cc
