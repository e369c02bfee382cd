-- The entries that a walk over a tree has left.
use Rattle.std.proofs.Common.{◌≡◌, ℕ, true, List, [], ◌∷◌, filter, Some, None, refl, ap, sym, ◌∙◌}
use Rattle.dir_tree.specs.Entry.{EntryInformation}
use Rattle.dir_tree.specs.Scope.{scoped}
use Rattle.dir_tree.specs.declared.scope.Scope.TheVariants.{Sub}
use Rattle.dir_tree.specs.tree.Numbered.{Numbered, IsNumberedTree, ids_of, entries_of, entries_at, entry_of, suffix_of}
use Rattle.dir_tree.proofs.TreeTheorems.{scoped-Sub, entries_at-kept}

filter-all : {A : Type 0} (xs : List A) → filter (λ x. true) xs ≡ xs
filter-all [] = refl
filter-all (x ∷ xs) = ap (λ ys. x ∷ ys) (filter-all xs)

-- from the suffix on all entries are left
pub rows-all : (id : ℕ) (rows : List Numbered) → IsNumberedTree rows → suffix_of rows ≡ Some id → entries_at rows (scoped Sub id rows) ≡ entries_of rows
rows-all id rows tree first =
    ap (entries_at rows) (scoped-Sub id rows tree first)
    ∙ ap (λ (kept : List Numbered). entries_at rows (ids_of kept)) (sym (filter-all rows))
    ∙ entries_at-kept (λ entry. true) rows tree.distinct ∙ filter-all (entries_of rows)

-- without a suffix there are none
pub rows-none : (rows : List Numbered) → suffix_of rows ≡ None → [] ≡ entries_of rows
rows-none [] none = refl
rows-none (row ∷ rows) none = absurd cc

-- the next number is that of an entry
pub entries_at-found : (rows : List Numbered) (id : ℕ) (entry : EntryInformation) (ids : List ℕ) → entry_of id rows ≡ Some entry
    → entries_at rows (id ∷ ids) ≡ entry ∷ entries_at rows ids
entries_at-found rows id entry ids found = rw found refl
