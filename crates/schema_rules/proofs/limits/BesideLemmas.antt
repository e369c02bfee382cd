-- The entries beside the one whose place is taken: how many there are, and which has a name.
use Rattle.std.proofs.Common.{◌≡◌, ◌≢◌, ℕ, ◌+◌, ◌-◌, ◌==◌, Bool, true, false, if◌then◌else◌, List, [], ◌∷◌, ◌⊎◌, length, Option, Some, None, refl, sym, ap, ◌∙◌, inl, inr, arith}
use Rattle.std.specs.Option.{option_map_or, option_and_then}
use Rattle.std.proofs.lemmas.Bool.{cases_Bool, eqb-true, eqb-false, eq-eqb, ne_eqb}
use Rattle.std.proofs.lemmas.List.{length-map}
use Rattle.dir_tree.specs.dn_names.name.Names.{RdnSequence}
use Rattle.dir_tree.specs.Entry.{EntryInformation}
use Rattle.dir_tree.specs.Points.{is_access_subentry, access_subentries}
use Rattle.dir_tree.specs.tree.Trees.{is_named, named_in, superior_name, IsInOrder}
use Rattle.dir_tree.specs.tree.Numbered.{Numbered, IsNumberedTree, AreDistinct, entries_of, entry_of, find_name, without}
use Rattle.dir_tree.specs.Scope.{is_number}
use Rattle.dir_tree.proofs.TreeTheorems.{entry_of-found, further, other_number, one_if, count_beside, length_beside, none_beside}
use Rattle.schema_rules.specs.Checking.{IsSuperior, replaced, others}
use Rattle.schema_rules.specs.Beside.{entry_beside}

-- a row that does not have the number is passed over
passed_over :
    (old : Option ℕ) (row : Numbered) (rows : List Numbered) (found : Option ℕ) → ((id : ℕ) → found ≡ Some id → id ≢ row.id)
    → option_and_then (entry_beside old (row ∷ rows)) found ≡ option_and_then (entry_beside old rows) found
passed_over old row rows None apart = refl
passed_over old row rows (Some id) apart =
    ap (λ (entry : Option EntryInformation). if is_number id old then None else entry)
    (further id row rows (λ e. apart id refl (sym e)))

-- the entry of a name beside it
named_beside :
    (id : ℕ) (name : RdnSequence) (rows : List Numbered) → IsInOrder (entries_of rows) → AreDistinct rows
    → option_and_then (entry_beside (Some id) rows) (find_name name rows) ≡ named_in name (entries_of (without id rows))
named_beside id name [] sorted distinct = refl
named_beside id name (row ∷ rows) sorted distinct = by (cases_Bool (is_named name row.entry)) (cases_Bool (row.id == id)) (named_beside id name rows sorted.1 distinct.1)
  where
    by :
        (is_named name row.entry ≡ true) ⊎ (is_named name row.entry ≡ false) → ((row.id == id) ≡ true) ⊎ ((row.id == id) ≡ false)
        → option_and_then (entry_beside (Some id) rows) (find_name name rows) ≡ named_in name (entries_of (without id rows))
        → option_and_then (entry_beside (Some id) (row ∷ rows)) (find_name name (row ∷ rows)) ≡ named_in name (entries_of (without id (row ∷ rows)))
    by (inl named) (inl here) later =
        rw (named, here, eq-eqb id row.id (sym (eqb-true row.id id here))) (sym (none_beside id name row.entry rows named sorted.0))
    by (inl named) (inr other) later =
        rw (named, other, ne_eqb id row.id (λ e. eqb-false row.id id other (sym e)), eq-eqb row.id row.id refl, named) refl
    by (inr apart) (inl here) later =
        rw (apart, here) (passed_over (Some id) row rows (find_name name rows) (λ number. other_number name row.id rows distinct.0 number) ∙ later)
    by (inr apart) (inr other) later =
        rw (apart, other, apart) (passed_over (Some id) row rows (find_name name rows) (λ number. other_number name row.id rows distinct.0 number) ∙ later)

-- so the superior
pub superior_beside :
    (old number : Option ℕ) (entry : EntryInformation) (rows : List Numbered) → IsNumberedTree rows → IsSuperior number entry rows
    → option_and_then (entry_beside old rows) number ≡ named_in (superior_name entry.name) (others old rows)
superior_beside None number entry rows tree is =
    ap (option_and_then (entry_beside None rows)) is ∙ entry_of-found (superior_name entry.name) rows tree.distinct
superior_beside (Some id) number entry rows tree is =
    ap (option_and_then (entry_beside (Some id) rows)) is
    ∙ named_beside id (superior_name entry.name) rows tree.tree.sorted tree.distinct

-- the counts of the program, less one where one is taken out
count_others :
    (old : Option ℕ) (rows : List Numbered) → IsNumberedTree rows
    → length rows ≡ length (others old rows) + option_map_or (λ entry. 1) (replaced old rows) 0
count_others None rows tree = omega (arith, length-map rows (λ (row : Numbered). row.entry))
count_others (Some id) rows tree = omega (arith, length-map rows (λ (row : Numbered). row.entry), length_beside id rows tree.distinct)

pub count_others-one :
    (old : Option ℕ) (entry : EntryInformation) (rows : List Numbered) → IsNumberedTree rows → Some entry ≡ replaced old rows
    → length rows - 1 ≡ length (others old rows)
count_others-one old entry rows tree known =
    let counted : length rows ≡ length (others old rows) + 1 =
    count_others old rows tree ∙ ap (λ found. length (others old rows) + option_map_or (λ entry. 1) found 0) (sym known) in
    omega arith

pub count_others-none :
    (old : Option ℕ) (rows : List Numbered) → IsNumberedTree rows → None ≡ replaced old rows → length rows ≡ length (others old rows)
count_others-none old rows tree none =
    let counted : length rows ≡ length (others old rows) + 0 =
    count_others old rows tree ∙ ap (λ found. length (others old rows) + option_map_or (λ entry. 1) found 0) (sym none) in
    omega arith

-- and those of the access control subentries
count_subentries :
    (old : Option ℕ) (rows : List Numbered) → IsNumberedTree rows
    → access_subentries (entries_of rows)
    ≡ access_subentries (others old rows) + one_if (option_map_or is_access_subentry (replaced old rows) false)
count_subentries None rows tree = omega arith
count_subentries (Some id) rows tree =
    count_beside is_access_subentry id rows tree.distinct
    ∙ ap (λ (more : ℕ). access_subentries (entries_of (without id rows)) + more) (of_found (entry_of id rows))
  where
    of_found :
        (found : Option EntryInformation)
        → option_map_or (λ (entry : EntryInformation). one_if (is_access_subentry entry)) found 0 ≡ one_if (option_map_or is_access_subentry found false)
    of_found None = refl
    of_found (Some entry) = refl

pub count_subentries-one :
    (old : Option ℕ) (rows : List Numbered) → IsNumberedTree rows
    → option_map_or is_access_subentry (replaced old rows) false ≡ true
    → access_subentries (entries_of rows) - 1 ≡ access_subentries (others old rows)
count_subentries-one old rows tree takes =
    let counted : access_subentries (entries_of rows) ≡ access_subentries (others old rows) + 1 =
    count_subentries old rows tree ∙ ap (λ (b : Bool). access_subentries (others old rows) + one_if b) takes in
    omega arith

pub count_subentries-none :
    (old : Option ℕ) (rows : List Numbered) → IsNumberedTree rows
    → option_map_or is_access_subentry (replaced old rows) false ≡ false
    → access_subentries (entries_of rows) ≡ access_subentries (others old rows)
count_subentries-none old rows tree takes =
    let counted : access_subentries (entries_of rows) ≡ access_subentries (others old rows) + 0 =
    count_subentries old rows tree ∙ ap (λ (b : Bool). access_subentries (others old rows) + one_if b) takes in
    omega arith
