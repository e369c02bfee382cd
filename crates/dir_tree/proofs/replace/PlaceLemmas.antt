-- How many rows at the front pass a test, and which rows come after one that fails it.
use Rattle.std.proofs.Common.{◌≡◌, ◌≤◌, suc, Bool, true, false, not, List, [], ◌∷◌, length, take, refl, ap, arith}
use Rattle.std.specs.List.{AllByRecursion}
use Rattle.std.specs.Ordering.{is_gt, is_lt}
use Rattle.std.proofs.lemmas.Cmp.{upto}
use Rattle.std.proofs.lemmas.Bool.{cond-false, cond_both, false_from_ne_true, not_from_false, not-true}
use Rattle.std.specs.declared.cmp.Ordering.TheVariants.{Less}
use Rattle.dn_names.specs.name.Names.{RdnSequence}
use Rattle.dn_names.specs.NameOrder.{name_cmp}
use Rattle.dn_names.proofs.Theorems.{name_cmp_total}
use Rattle.dir_tree.specs.tree.Trees.{is_before}
use Rattle.dir_tree.specs.tree.Numbered.{Numbered, entries_of}
use Rattle.dir_tree.specs.slots.Places.{front_count, stands_before, place_of}
use Rattle.dir_tree.proofs.tree.NameLemmas.{Less-from_before, before_chain, name_cmp-take}

-- a row that comes before one that passes the test passes it
pub record GoesDown (test : Numbered → Bool) : Type 0 where
  pub down : (row later : Numbered) → is_before row.entry.name later.entry.name ≡ true → test later ≡ true → test row ≡ true

pub stands_before_down : (name : RdnSequence) → GoesDown (stands_before name)
stands_before_down name = record { down = λ row later e f. before_chain row.entry.name later.entry.name name e f }

-- the row's name does not come after all names at or below the name
abbrev pub stands_within : RdnSequence → Numbered → Bool
stands_within name row = not (is_gt (name_cmp (take (length name) row.entry.name) name))

pub stands_within_down : (name : RdnSequence) → GoesDown (stands_within name)
stands_within_down name = record {
  down = λ row later e f. not_from_false (is_gt (name_cmp (take (length name) row.entry.name) name))
      (upto name_cmp_total (take (length name) row.entry.name) (take (length name) later.entry.name) name
      (name_cmp-take (length name) row.entry.name later.entry.name (ap is_gt (Less-from_before row.entry.name later.entry.name e)))
      (not-true (is_gt (name_cmp (take (length name) later.entry.name) name)) f));
}

-- what holds of each row that comes after one
after_all : (P : Numbered → Type 0) (row : Numbered) → ((later : Numbered) → is_before row.entry.name later.entry.name ≡ true → P later) → (rows : List Numbered) → AllByRecursion (λ later. name_cmp row.entry.name later.name ≡ Less) (entries_of rows) → AllByRecursion P rows
after_all P row f [] h = tt
after_all P row f (x ∷ rows) h = (f x (ap is_lt h.0), after_all P row f rows h.1)

-- no row after one that fails passes
pub fails_after : (test : Numbered → Bool) → GoesDown test → (row : Numbered) (rows : List Numbered) → test row ≡ false → AllByRecursion (λ later. name_cmp row.entry.name later.name ≡ Less) (entries_of rows) → AllByRecursion (λ later. test later ≡ false) rows
fails_after test goes row rows fails h =
    after_all (λ later. test later ≡ false) row (λ later e. false_from_ne_true (test later) (λ f. let passes = goes.down row later e f in absurd cc)) rows h

pub front_none : (test : Numbered → Bool) (rows : List Numbered) → AllByRecursion (λ row. test row ≡ false) rows → front_count test rows ≡ 0
front_none test [] h = refl
front_none test (row ∷ rows) h = cond-false (test row) (suc (front_count test rows)) 0 h.0

pub front_count-le : (test : Numbered → Bool) (rows : List Numbered) → front_count test rows ≤ length rows
front_count-le test [] = omega arith
front_count-le test (row ∷ rows) =
    let less = front_count-le test rows in
    cond_both (test row) (suc (front_count test rows)) 0 (λ n. n ≤ suc (length rows)) (λ _. omega arith) (λ _. omega arith)

-- no place is past the end
pub place_of-le : (name : RdnSequence) (rows : List Numbered) → place_of name rows ≤ length rows
unfolding place_of
place_of-le name rows = front_count-le (stands_before name) rows
