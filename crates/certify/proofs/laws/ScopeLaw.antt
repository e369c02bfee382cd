-- The subentries that are said to hold the entry are those in force for it.
use Rattle.std.proofs.Common.{◌≡◌, inl, inr, Bool, true, false, ◌&&◌, List, [], ◌∷◌, ◌++◌, filter, map, refl, sym, ap, ◌∙◌}
use Rattle.std.specs.Prelude.{flat_map, if◌then◌else◌}
use Rattle.std.proofs.lemmas.Bool.{cases_Bool}
use Rattle.std.proofs.lemmas.List.Elements.{filter-append}
use Rattle.dir_tree.proofs.base_laws_proofs.Theorems.{filter-filter}
use Rattle.dir_tree.specs.Entry.{EntryInformation}
use Rattle.dir_tree.specs.Points.{is_subentry, is_access_subentry}
use Rattle.dir_tree.specs.Scope.{is_child}
use Rattle.acdf_filters.specs.admin_scope.Areas.{areas}
use Rattle.acdf_filters.specs.admin_scope.InForce.{subtree_holds, reaches, in_force_at, in_force}
use Rattle.certify.specs.Lines.{Line, before}
use Rattle.certify.specs.Certificate.{scope_word, scope_line, scope_lines_at, scope_lines, says_in}
use Rattle.certify.proofs.ListLemmas.{filter-agree, flat_map-agree, map-flat_map}

-- the line of a subentry that is in force
abbrev in_line : EntryInformation → Line
in_line subentry = before (scope_word true) subentry.name

filter-flat_map : {A B : Type 0} (p : B → Bool) (f : A → List B) (xs : List A) → filter p (flat_map f xs) ≡ flat_map (λ x. filter p (f x)) xs
filter-flat_map p f [] = refl
filter-flat_map p f (x ∷ xs) = filter-append p (f x) (flat_map f xs) ∙ ap (λ ys. filter p (f x) ++ ys) (filter-flat_map p f xs)

-- of subentries, the lines that say so are those of the subentries that hold the entry
said_in : (entry point : EntryInformation) (subentries : List EntryInformation)
    → filter says_in (map (scope_line entry point) subentries) ≡ map in_line (filter (λ subentry. subtree_holds point subentry entry) subentries)
said_in entry point [] = refl
said_in entry point (subentry ∷ subentries) = elim (cases_Bool (subtree_holds point subentry entry)) [
  | inl e ↦ rw e (ap (λ lines. in_line subentry ∷ lines) (said_in entry point subentries))
  | inr e ↦ rw e (said_in entry point subentries)
]

-- three tests in another order
same_tests : (access child holds : Bool) → ((access && child) && holds) ≡ (child && (access && holds))
same_tests true true holds = refl
same_tests true false holds = refl
same_tests false true holds = refl
same_tests false false holds = refl

-- those in force under a point
at_point : (entries : List EntryInformation) (entry point : EntryInformation)
    → filter says_in (scope_lines_at entries entry point) ≡ map in_line (in_force_at entry point entries)
at_point entries entry point =
    said_in entry point (filter (λ subentry. is_child point.name subentry) (filter is_access_subentry entries))
    ∙ ap (map in_line)
    (ap (filter (λ subentry. subtree_holds point subentry entry)) (filter-filter (λ subentry. is_child point.name subentry) is_access_subentry entries)
    ∙ filter-filter (λ subentry. subtree_holds point subentry entry) (λ subentry. is_access_subentry subentry && is_child point.name subentry) entries
    ∙ filter-agree (λ subentry. (is_access_subentry subentry && is_child point.name subentry) && subtree_holds point subentry entry) (λ subentry. reaches point subentry entry)
    (λ subentry. same_tests (is_access_subentry subentry) (is_child point.name subentry) (subtree_holds point subentry entry)) entries)

-- and under all points
pub lines-in_force : (entries : List EntryInformation) (entry : EntryInformation)
    → filter says_in (scope_lines entries entry) ≡ map in_line (in_force entries entry)
unfolding in_force
lines-in_force entries entry = by (is_subentry entry)
  where
    by : (subentry : Bool) → filter says_in (if subentry then [] else flat_map (scope_lines_at entries entry) (areas entries entry))
        ≡ map in_line (if subentry then [] else flat_map (λ point. in_force_at entry point entries) (areas entries entry))
    by true = refl
    by false =
        filter-flat_map says_in (scope_lines_at entries entry) (areas entries entry)
        ∙ flat_map-agree (λ point. filter says_in (scope_lines_at entries entry point)) (λ point. map in_line (in_force_at entry point entries))
        (at_point entries entry) (areas entries entry)
        ∙ sym (map-flat_map in_line (λ point. in_force_at entry point entries) (areas entries entry))
