-- The subtrees stay those of the subentries, where an entry comes, goes or changes that is no access control subentry.
use Rattle.std.proofs.Common.{◌≡◌, ◌≢◌, ℕ, false, ◌==◌, List, [], ◌∷◌, map, ap, sym, subst, ◌∙◌, inl, inr, Option, Some, None}
use Rattle.std.specs.Prelude.{IfSome}
use Rattle.std.specs.List.{AllByRecursion}
use Rattle.std.specs.Option.{option_map, option_and_then}
use Rattle.std.proofs.lemmas.Bool.{cases_Bool, eqb-false}
use Rattle.dir_tree.specs.Entry.{EntryInformation}
use Rattle.dir_tree.specs.Points.{is_access_subentry}
use Rattle.dir_tree.specs.tree.Numbered.{Numbered, IsNumberedTree, ids_of, entry_of, subentry_rows, without}
use Rattle.dir_tree.proofs.TreeTheorems.{put_row-taken, without-absent as without-unused, filter-put_other}
use Rattle.acdf_filters.specs.subtree_spec.Subtrees.{subtree_of}
use Rattle.acdf_filters.specs.admin_scope.InForce.{subtree_of_entry}
use Rattle.acdf_filters.specs.admin_scope.Finding.{AreSubtrees, subtree_at}
use Rattle.acdf_filters.specs.admin_scope.declared.subtrees.AccessSubentry.{AccessSubentry}
use Rattle.aci_index.specs.Aside.{IsChangeOf}
use Rattle.aci_index.proofs.laws.NumberLemmas.{entry_of-new}

-- the entry is no access control subentry
abbrev pub IsOrdinary : EntryInformation → Type 0
IsOrdinary entry = is_access_subentry entry ≡ false

-- the subentries are those of other numbers
subentry_rows-others : (id : ℕ) (rows : List Numbered) (one : Option EntryInformation) → IsNumberedTree rows → entry_of id rows ≡ one → IfSome one IsOrdinary
    → subentry_rows rows ≡ subentry_rows (without id rows)
subentry_rows-others id rows None tree e h = ap subentry_rows (sym (without-unused id rows e))
subentry_rows-others id rows (Some one) tree e h =
    ap subentry_rows (sym (put_row-taken id one rows tree e))
    ∙ filter-put_other (λ row. is_access_subentry row.entry) (record { id = id; entry = one }) (without id rows) h

others_only : (id : ℕ) (rows : List Numbered) → AllByRecursion (λ number. number ≢ id) (ids_of (subentry_rows (without id rows)))
others_only id [] = tt
others_only id (x ∷ rows) = elim (cases_Bool (x.id == id)) [
  | inl e ↦ rw e (others_only id rows)
  | inr e ↦ elim (cases_Bool (is_access_subentry x.entry)) [
    | inl f ↦ rw (e, f) (eqb-false x.id id e, others_only id rows)
    | inr f ↦ rw (e, f) (others_only id rows)
  ]
]

each_subtree : (id : ℕ) (rows new : List Numbered) → without id rows ≡ without id new → (list : List AccessSubentry)
    → AllByRecursion (λ number. number ≢ id) (map (λ one. one.number.0) list)
    → AllByRecursion (λ one. option_map subtree_of one.subtree ≡ subtree_at one.number.0 rows) list
    → AllByRecursion (λ one. option_map subtree_of one.subtree ≡ subtree_at one.number.0 new) list
each_subtree id rows new same [] others h = tt
each_subtree id rows new same (one ∷ list) others h = (
  h.0 ∙ ap (option_and_then subtree_of_entry) (sym (entry_of-new id one.number.0 rows new same others.0)),
  each_subtree id rows new same list others.1 h.1,
)

pub subtrees-stay : (id : ℕ) (rows new : List Numbered) (one other : Option EntryInformation) (list : List AccessSubentry) → IsNumberedTree rows → IsNumberedTree new
    → IsChangeOf id rows new one other → IfSome one IsOrdinary → IfSome other IsOrdinary
    → AreSubtrees list rows → AreSubtrees list new
subtrees-stay id rows new one other list tree also change first second h =
    let before = subentry_rows-others id rows one tree change.before first in
    let after = subentry_rows-others id new other also change.after second in
    let numbers : map (λ one. one.number.0) list ≡ ids_of (subentry_rows (without id rows)) = h.numbers ∙ ap ids_of before in
    record {
      numbers =
          numbers
          ∙ ap (λ (others : List Numbered). ids_of (subentry_rows others)) change.others
          ∙ sym (ap ids_of after);
      subtrees =
          each_subtree id rows new change.others list
          (subst (λ (ids : List ℕ). AllByRecursion (λ number. number ≢ id) ids) (sym numbers) (others_only id rows))
          h.subtrees;
    }
