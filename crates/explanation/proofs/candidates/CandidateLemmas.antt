-- The tuples that a program reads are those that count.
use Rattle.std.proofs.Common.{◌≡◌, ℕ, true, false, List, [], ◌∷◌, ◌++◌, map, Option, Some, None, refl, sym, ap, ◌∙◌}
use Rattle.std.specs.Prelude.{flat_map}
use Rattle.std.specs.Option.{option_map_or, option_and_then}
use Rattle.std.proofs.lemmas.Bool.{cond-true, cond-false}
use Rattle.std.proofs.lemmas.List.{append_assoc}
use Rattle.dir_tree.specs.dn_names.name.Names.{RdnSequence}
use Rattle.dir_tree.specs.Entry.{EntryInformation}
use Rattle.dir_tree.specs.tree.Trees.{superior_name, named_in}
use Rattle.dir_tree.specs.Points.{is_subentry}
use Rattle.dir_tree.specs.tree.Numbered.{Numbered, IsNumberedTree, entry_of, entries_of, entries_at, find_name, superior_of}
use Rattle.dir_tree.specs.declared.number.EntryNo.{EntryNo}
use Rattle.dir_tree.proofs.TreeTheorems.{entry_of-found}
use Rattle.acdf_filters.specs.admin_scope.InForce.{in_force}
use Rattle.acdf_filters.specs.Tuples.{Listed, prescriptive_aci, entry_aci, subentry_aci, listed_by, listed_in, inherited, tuples_of}
use Rattle.acdf_filters.specs.aci_item.item.Views.{tuple_of}
use Rattle.acdf_filters.specs.aci_item.declared.splitting.AciTuple as code
use Rattle.acdf_filters.specs.declared.question.Question.{Question}
use Rattle.explanation.specs.Candidates.{Described, described_for, listed_at}

-- those of the numbers that are in use
at-entries : (rows : List Numbered) (kind : ℕ) (numbers : List EntryNo) → flat_map (λ no. listed_at rows kind no.0) numbers ≡ flat_map (listed_in kind) (entries_at rows (map (λ no. no.0) numbers))
at-entries rows kind [] = refl
at-entries rows kind (first ∷ numbers) = by (entry_of first.0 rows) refl (at-entries rows kind numbers)
  where
    by : (o : Option EntryInformation) → entry_of first.0 rows ≡ o → flat_map (λ no. listed_at rows kind no.0) numbers ≡ flat_map (listed_in kind) (entries_at rows (map (λ no. no.0) numbers))
        → flat_map (λ no. listed_at rows kind no.0) (first ∷ numbers) ≡ flat_map (listed_in kind) (entries_at rows (map (λ no. no.0) (first ∷ numbers)))
    by None e later = rw e later
    by (Some entry) e later = rw e (ap (λ (xs : List Listed). listed_in kind entry ++ xs) later)

-- an ordinary entry has those of the subentries in force
pub inherited-ordinary : (rows : List Numbered) (entry : EntryInformation) (numbers : List EntryNo) → is_subentry entry ≡ false
    → entries_at rows (map (λ no. no.0) numbers) ≡ in_force (entries_of rows) entry
    → flat_map (λ no. listed_at rows prescriptive_aci no.0) numbers ≡ inherited (entries_of rows) entry
unfolding inherited
inherited-ordinary rows entry numbers ordinary found =
    at-entries rows prescriptive_aci numbers
    ∙ ap (flat_map (listed_in prescriptive_aci)) found
    ∙ sym (cond-false (is_subentry entry) (option_map_or (listed_in subentry_aci) (named_in (superior_name entry.name) (entries_of rows)) [])
    (flat_map (listed_in prescriptive_aci) (in_force (entries_of rows) entry)) ordinary)

-- a subentry has those of the entry above it
pub inherited-subentry : (rows : List Numbered) (entry : EntryInformation) (id : ℕ) → IsNumberedTree rows → is_subentry entry ≡ true → entry_of id rows ≡ Some entry
    → option_map_or (listed_at rows subentry_aci) (superior_of id rows) [] ≡ inherited (entries_of rows) entry
unfolding inherited
inherited-subentry rows entry id tree subentry known =
    let above : superior_of id rows ≡ find_name (superior_name entry.name) rows =
    ap (λ (o : Option EntryInformation). option_and_then (λ e. find_name (superior_name e.name) rows) o) known in
    ap (λ (o : Option ℕ). option_map_or (listed_at rows subentry_aci) o []) above
    ∙ through (find_name (superior_name entry.name) rows)
    ∙ ap (λ (o : Option EntryInformation). option_map_or (listed_in subentry_aci) o []) (entry_of-found (superior_name entry.name) rows tree.distinct)
    ∙ sym (cond-true (is_subentry entry) (option_map_or (listed_in subentry_aci) (named_in (superior_name entry.name) (entries_of rows)) [])
    (flat_map (listed_in prescriptive_aci) (in_force (entries_of rows) entry)) subentry)
  where
    through : (o : Option ℕ) → option_map_or (listed_at rows subentry_aci) o [] ≡ option_map_or (listed_in subentry_aci) (option_and_then (λ n. entry_of n rows) o) []
    through None = refl
    through (Some n) = refl

-- and each has its own
pub counting : (rows : List Numbered) (entry : EntryInformation) (id : ℕ) → entry_of id rows ≡ Some entry
    → inherited (entries_of rows) entry ++ listed_at rows entry_aci id ≡ tuples_of (entries_of rows) entry
unfolding tuples_of
counting rows entry id known =
    ap (λ (o : Option EntryInformation). inherited (entries_of rows) entry ++ option_map_or (listed_in entry_aci) o []) known

-- one tuple of an item put behind others
pub one_more : (question : Question) (source : RdnSequence) (tag : List ℕ) (tuple : code.AciTuple) (rest all : List code.AciTuple) → all ≡ tuple ∷ rest → (before after whole : List Described)
    → after ≡ before ++ described_for question (record { source = source; tag = tag; tuple = tuple_of tuple }) ∷ []
    → before ++ map (described_for question) (listed_by source (record { tag = tag; tuples = map tuple_of all })) ≡ whole
    → after ++ map (described_for question) (listed_by source (record { tag = tag; tuples = map tuple_of rest })) ≡ whole
one_more question source tag tuple rest all next before after whole put invariant =
    let left : List code.AciTuple → List Described = λ xs. map (described_for question) (listed_by source (record { tag = tag; tuples = map tuple_of xs })) in
    ap (λ ds. ds ++ left rest) put
    ∙ append_assoc before (described_for question (record { source = source; tag = tag; tuple = tuple_of tuple }) ∷ []) (left rest)
    ∙ ap (λ xs. before ++ left xs) (sym next)
    ∙ invariant
