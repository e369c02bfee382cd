-- Entries put behind all others, one after the other.
use Rattle.std.proofs.Common.{◌≡◌, ◌≢◌, ℕ, true, List, [], ◌∷◌, ◌++◌, Some, None, filter, refl, sym, ap, subst, ◌∙◌, append_assoc}
use Rattle.std.specs.List.{AllByRecursion}
use Rattle.std.specs.Ordering.{is_lt}
use Rattle.dir_tree.specs.Entry.{EntryInformation}
use Rattle.dir_tree.specs.Scope.{scoped}
use Rattle.dir_tree.specs.declared.scope.Scope.TheVariants.{Sub}
use Rattle.dir_tree.specs.tree.Trees.{put_in, IsInOrder, IsTree}
use Rattle.dir_tree.specs.tree.Numbered.{Numbered, IsNumberedTree, ids_of, entries_of, entries_at, entry_of, suffix_of, put_entry}
use Rattle.dir_tree.proofs.TreeTheorems.{entries_of-put_row, scoped-Sub, entries_at-kept}
use Rattle.event_replay.specs.Copying.{IsLast}

-- an entry that comes after all others is put behind them
put_in-last : (entry : EntryInformation) (entries : List EntryInformation) → IsLast entry entries → put_in entry entries ≡ entries ++ entry ∷ []
put_in-last entry [] last = refl
put_in-last entry (first ∷ rest) last = rw (ap is_lt last.0) (ap (λ entries. first ∷ entries) (put_in-last entry rest last.1))

put_entry-last : (id : ℕ) (entry : EntryInformation) (rows : List Numbered) → IsLast entry (entries_of rows)
    → entries_of (put_entry id entry rows) ≡ entries_of rows ++ entry ∷ []
put_entry-last id entry rows last = entries_of-put_row (record { id = id; entry = entry }) rows ∙ put_in-last entry (entries_of rows) last

-- so is a copy of it
pub put_entry-copied : (id : ℕ) (copied entry : EntryInformation) (rows : List Numbered) → copied ≡ entry → IsLast entry (entries_of rows)
    → entries_of (put_entry id copied rows) ≡ entries_of rows ++ entry ∷ []
put_entry-copied id copied entry rows same last = ap (λ copied. entries_of (put_entry id copied rows)) same ∙ put_entry-last id entry rows last

-- what holds of all entries holds of the one between others
all-between : (P : EntryInformation → Type 0) (front : List EntryInformation) (entry : EntryInformation) (back : List EntryInformation)
    → AllByRecursion P (front ++ entry ∷ back) → P entry
all-between P [] entry back all = all.0
all-between P (first ∷ front) entry back all = all-between P front entry back all.1

-- an entry of a tree comes after all before it, and has a name
last-between : (front : List EntryInformation) (entry : EntryInformation) (back : List EntryInformation) → IsInOrder (front ++ entry ∷ back) → IsLast entry front
last-between [] entry back order = tt
last-between (first ∷ front) entry back order = (all-between _ front entry back order.0, last-between front entry back order.1)

-- what is copied so far, and what is left
pub record IsCopied (all done left : List EntryInformation) : Type 0 where
  pub joined : done ++ left ≡ all
  pub tree : IsTree all

pub copied-last : (all done : List EntryInformation) (entry : EntryInformation) (left : List EntryInformation) → IsCopied all done (entry ∷ left) → IsLast entry done
copied-last all done entry left copied = last-between done entry left (subst IsInOrder (sym copied.joined) copied.tree.sorted)

pub copied-named : (all done : List EntryInformation) (entry : EntryInformation) (left : List EntryInformation) → IsCopied all done (entry ∷ left) → entry.name ≢ []
copied-named all done entry left copied =
    all-between (λ entry. entry.name ≢ []) done entry left (subst (AllByRecursion (λ entry. entry.name ≢ [])) (sym copied.joined) copied.tree.named)

pub copied-more : (all done more : List EntryInformation) (entry : EntryInformation) (left : List EntryInformation) → IsCopied all done (entry ∷ left)
    → more ≡ done ++ entry ∷ [] → IsCopied all more left
copied-more all done more entry left copied is = record {
  joined = ap (λ entries. entries ++ left) is ∙ append_assoc done (entry ∷ []) left ∙ copied.joined;
  tree = copied.tree;
}

-- the next number that is left is that of an entry, or is passed over
pub entries_at-found : (rows : List Numbered) (id : ℕ) (entry : EntryInformation) (ids : List ℕ) → entry_of id rows ≡ Some entry
    → entries_at rows (id ∷ ids) ≡ entry ∷ entries_at rows ids
entries_at-found rows id entry ids found = rw found refl

pub entries_at-absent : (rows : List Numbered) (id : ℕ) (ids : List ℕ) → entry_of id rows ≡ None → entries_at rows (id ∷ ids) ≡ entries_at rows ids
entries_at-absent rows id ids none = rw none refl

pub copied-next : (rows : List Numbered) (all done : List EntryInformation) (ids : List ℕ) (id : ℕ) (left : List ℕ) (entry : EntryInformation)
    → IsCopied all done (entries_at rows ids) → ids ≡ id ∷ left → entry_of id rows ≡ Some entry → IsCopied all done (entry ∷ entries_at rows left)
copied-next rows all done ids id left entry copied is found =
    subst (IsCopied all done) (ap (entries_at rows) is ∙ entries_at-found rows id entry left found) copied

-- from the suffix on all entries are left
filter-all : {A : Type 0} (xs : List A) → filter (λ x. true) xs ≡ xs
filter-all [] = refl
filter-all (x ∷ xs) = ap (λ ys. x ∷ ys) (filter-all xs)

pub rows-all : (id : ℕ) (rows : List Numbered) → IsNumberedTree rows → suffix_of rows ≡ Some id → entries_at rows (scoped Sub id rows) ≡ entries_of rows
rows-all id rows tree first =
    ap (entries_at rows) (scoped-Sub id rows tree first)
    ∙ ap (λ (kept : List Numbered). entries_at rows (ids_of kept)) (sym (filter-all rows))
    ∙ entries_at-kept (λ entry. true) rows tree.distinct ∙ filter-all (entries_of rows)

-- without a suffix there are none
pub rows-none : (rows : List Numbered) → suffix_of rows ≡ None → [] ≡ entries_of rows
rows-none [] none = refl
rows-none (row ∷ rows) none = absurd cc
