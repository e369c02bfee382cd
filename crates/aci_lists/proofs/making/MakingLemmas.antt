-- What is kept grows by the next number, and the last of them covers all entries.
use Rattle.std.proofs.Common.{◌≡◌, ◌⊎◌, inl, inr, ℕ, ◌<◌, List, [], ◌∷◌, ◌++◌, length, map, get_or, Some, sym, ap, subst, ◌∙◌, arith, length-append}
use Rattle.std.specs.List.{AllByRecursion}
use Rattle.std.proofs.lemmas.Bool.{cases_eq}
use Rattle.std.proofs.lemmas.List.{length-map, map-append, get_or_append_left}
use Rattle.std.proofs.Math.Seq.{get_or-append_seam}
use Rattle.dir_tree.specs.Entry.{EntryInformation}
use Rattle.dir_tree.specs.tree.Numbered.{Numbered, entry_of}
use Rattle.dir_tree.proofs.TreeTheorems.{all_known}
use Rattle.aci_lists.specs.declared.kept.Kept.{Kept}
use Rattle.aci_lists.specs.kept.Lists.{Lists, lists_of, no_lists, lists_at, AreOf, IsKept, IsKeptBelow}

-- one more
lists_at-before : (kept : List Kept) (next : Kept) (id : ℕ) → id < length kept → lists_at (kept ++ next ∷ []) id ≡ lists_at kept id
lists_at-before kept next id h =
    ap (λ (xs : List Lists). get_or xs id no_lists) (map-append lists_of kept (next ∷ []))
    ∙ get_or_append_left (map lists_of kept) (lists_of next ∷ []) no_lists id (subst (λ n. id < n) (sym (length-map kept lists_of)) h)

lists_at-next : (kept : List Kept) (next : Kept) → lists_at (kept ++ next ∷ []) (length kept) ≡ lists_of next
lists_at-next kept next =
    ap (λ (xs : List Lists). get_or xs (length kept) no_lists) (map-append lists_of kept (next ∷ []))
    ∙ ap (λ n. get_or (map lists_of kept ++ lists_of next ∷ []) n no_lists) (sym (length-map kept lists_of))
    ∙ get_or-append_seam (map lists_of kept) (lists_of next) [] no_lists

pub kept-next : (kept : List Kept) (next : Kept) (rows : List Numbered) → IsKeptBelow kept rows
    → ((entry : EntryInformation) → entry_of (length kept) rows ≡ Some entry → AreOf rows entry (lists_of next))
    → IsKeptBelow (kept ++ next ∷ []) rows
kept-next kept next rows below made id entry h known = by (cases_eq id (length kept))
  where
    by : ((id ≡ length kept) ⊎ (id ≡ length kept → ⊥)) → AreOf rows entry (lists_at (kept ++ next ∷ []) id)
    by (inl e) =
        subst (AreOf rows entry) (sym (ap (lists_at (kept ++ next ∷ [])) e ∙ lists_at-next kept next))
        (made entry (ap (λ n. entry_of n rows) (sym e) ∙ known))
    by (inr other) =
        let within : id < length kept = omega (arith, length-append kept (next ∷ [])) in
        subst (AreOf rows entry) (sym (lists_at-before kept next id within)) (below id entry within known)

-- each number in use is one of those that are kept
pub kept-all : (kept : List Kept) (rows : List Numbered) → AllByRecursion (λ row. row.id < length kept) rows → IsKeptBelow kept rows → IsKept kept rows
kept-all kept rows h below id entry known = below id entry (all_known (λ row. row.id < length kept) id entry rows h known) known
