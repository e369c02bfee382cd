-- The lines that a program puts of the subentries below points are those of the certificate.
use Rattle.std.proofs.Common.{◌≡◌, ℕ, true, false, List, [], filter, sym, ap, ◌∙◌}
use Rattle.std.specs.Prelude.{flat_map}
use Rattle.std.proofs.lemmas.Bool.{cond-true, cond-false}
use Rattle.dir_tree.specs.Entry.{EntryInformation}
use Rattle.dir_tree.specs.Points.{is_subentry, is_access_subentry}
use Rattle.dir_tree.specs.Scope.{is_child}
use Rattle.dir_tree.specs.tree.Numbered.{Numbered, IsNumberedTree, entry_of, entries_of, ids_of, subentry_rows}
use Rattle.dir_tree.proofs.TreeTheorems.{entries_at-kept}
use Rattle.acdf_filters.specs.admin_scope.Areas.{areas}
use Rattle.certify.specs.Certificate.{scope_line, scope_lines_at, scope_lines}
use Rattle.certify.specs.Making.{scope_line_below, scope_line_at}
use Rattle.certify.proofs.ListLemmas.{flat_map-at, flat_map-where}

-- those below a point
pub point_lines : (rows : List Numbered) (entry point : EntryInformation) (ids : List ℕ) → IsNumberedTree rows → ids ≡ ids_of (subentry_rows rows)
    → flat_map (scope_line_at rows entry point) ids ≡ scope_lines_at (entries_of rows) entry point
point_lines rows entry point ids tree e =
    ap (flat_map (scope_line_at rows entry point)) e
    ∙ flat_map-at (λ id. entry_of id rows) (scope_line_below entry point) (ids_of (subentry_rows rows))
    ∙ ap (flat_map (scope_line_below entry point)) (entries_at-kept is_access_subentry rows tree.distinct)
    ∙ flat_map-where (λ subentry. is_child point.name subentry) (scope_line entry point) (filter is_access_subentry (entries_of rows))

-- a subentry has none
pub no_scope_lines : (entries : List EntryInformation) (entry : EntryInformation) → is_subentry entry ≡ true → [] ≡ scope_lines entries entry
no_scope_lines entries entry e =
    sym (cond-true (is_subentry entry) [] (flat_map (scope_lines_at entries entry) (areas entries entry)) e)

-- an ordinary entry has those of its points
pub all_scope_lines : (entries : List EntryInformation) (entry : EntryInformation) (points : List EntryInformation) → is_subentry entry ≡ false
    → points ≡ areas entries entry → flat_map (scope_lines_at entries entry) points ≡ scope_lines entries entry
all_scope_lines entries entry points ordinary e =
    ap (flat_map (scope_lines_at entries entry)) e
    ∙ sym (cond-false (is_subentry entry) [] (flat_map (scope_lines_at entries entry) (areas entries entry)) ordinary)
