-- What is said over a view without rows that show nothing: what is said over the view. Nothing is said here of trees and
-- of decisions.
use Rattle.std.proofs.Common.{◌≡◌, inl, inr, Bool, true, false, not, ◌&&◌, ◌||◌, [], Option, ap, ◌∙◌, find, reverse, if◌then◌else◌}
use Rattle.std.specs.List.{AllByRecursion}
use Rattle.std.specs.Option.{option_map_or}
use Rattle.std.proofs.lemmas.Bool.{and_cases, and_right, or_parts, not-false, both_ways}
use Rattle.dir_tree.proofs.base_laws_proofs.Theorems.{all_map, none_passes, reverse-filter}
use Rattle.dir_tree.specs.dn_names.name.Names.{RdnSequence}
use Rattle.dir_tree.proofs.dn_names_proofs.Theorems.{all_reverse}
use Rattle.dir_tree.specs.tree.Trees.{is_below}
use Rattle.dir_tree.specs.Scope.{is_within}
use Rattle.acdf_filters.specs.aci_item.declared.permission.Permission.TheVariants.{Browse, Read, ReturnDn, DiscloseOnError}
use Rattle.acdf_filters.specs.Asking.{Entry}
use Rattle.ldap_msg.specs.declared.operations.ResultCode.TheVariants as code
use Rattle.ldap_msg.specs.declared.kinds.LdapResult.{LdapResult}
use Rattle.read_model.specs.Views.{Row, View, has_name, is_disclosed, matched_name, result_of, result_with, discloses, hidden}
use Rattle.twin_laws.specs.Twins.{is_shown, shows_within, rows_outside}
use Rattle.twin_laws.proofs.laws.ListLemmas.{list_any-left, find-left}

-- the row may not be browsed, read or known of
pub record IsHidden (row : Row) : Type 0 where
  pub browsed : row.allows Entry Browse ≡ false
  pub read : row.allows Entry Read ≡ false
  pub disclosed : row.allows Entry DiscloseOnError ≡ false

IsHidden-from_is_shown : (row : Row) → is_shown row ≡ false → IsHidden row
IsHidden-from_is_shown row e =
    let named = row.allows Entry ReturnDn || row.allows Entry DiscloseOnError in
    let first = or_parts (row.allows Entry Browse) (row.allows Entry Read || named) e in
    let second = or_parts (row.allows Entry Read) named first.1 in
    record {
      browsed = first.0;
      read = second.0;
      disclosed = (or_parts (row.allows Entry ReturnDn) (row.allows Entry DiscloseOnError) second.1).1;
    }

-- each row at or below the name is so
abbrev pub IsHiddenWithin : RdnSequence → Row → Type 0
IsHiddenWithin top row = is_within top row.entry ≡ true → IsHidden row

abbrev pub AreHidden : RdnSequence → View → Type 0
AreHidden top view = AllByRecursion (IsHiddenWithin top) view

pub AreHidden-from_shows_within : (top : RdnSequence) (view : View) → shows_within top view ≡ false → AreHidden top view
AreHidden-from_shows_within top view e =
    all_map (λ row. (is_within top row.entry && is_shown row) ≡ false) (IsHiddenWithin top) hides view
    (none_passes (λ row. is_within top row.entry && is_shown row) view e)
  where
    hides : (row : Row) → (is_within top row.entry && is_shown row) ≡ false → IsHiddenWithin top row
    hides row e within = elim (and_cases (is_within top row.entry) (is_shown row) e) [
      | inl f ↦ absurd (both_ways (is_within top row.entry) f within)
      | inr f ↦ IsHidden-from_is_shown row f
    ]

-- so a test that no hidden row passes is passed by none of those that are left out
pub none_out : (top : RdnSequence) (test : Row → Bool) (view : View) → ((row : Row) → IsHidden row → test row ≡ false)
    → AreHidden top view → AllByRecursion (λ row. not (is_within top row.entry) ≡ false → test row ≡ false) view
none_out top test view f h =
    all_map (IsHiddenWithin top) (λ row. not (is_within top row.entry) ≡ false → test row ≡ false)
    (λ row hides e. f row (hides (not-false (is_within top row.entry) e))) view h

-- the rows that are left
abbrev pub is_left : RdnSequence → Row → Bool
is_left top row = not (is_within top row.entry)

-- a row that may be known of, above the name
abbrev is_known_above : RdnSequence → Row → Bool
is_known_above name row = is_below row.entry.name name && is_disclosed row

abbrev pub is_known_as : RdnSequence → Row → Bool
is_known_as name row = has_name name row && is_disclosed row

-- the matched name stays
pub matched_name-outside : (top : RdnSequence) (view : View) → AreHidden top view → (name : RdnSequence)
    → matched_name (rows_outside top view) name ≡ matched_name view name
unfolding matched_name
matched_name-outside top view h name =
    ap (λ (rows : View). option_map_or (λ row. row.entry.name) (find (is_known_above name) rows) [])
    (reverse-filter (is_left top) view)
    ∙ ap (λ (found : Option Row). option_map_or (λ row. row.entry.name) found [])
    (find-left (is_known_above name) (is_left top) (reverse view)
    (all_reverse (λ row. is_left top row ≡ false → is_known_above name row ≡ false) view
    (none_out top (is_known_above name) view unknown h)))
  where
    unknown : (row : Row) → IsHidden row → is_known_above name row ≡ false
    unknown row hides = and_right (is_below row.entry.name name) (is_disclosed row) hides.disclosed

-- and what may be known of
pub discloses-outside : (top : RdnSequence) (view : View) → AreHidden top view → (name : RdnSequence)
    → discloses (rows_outside top view) name ≡ discloses view name
discloses-outside top view h name =
    list_any-left (is_known_as name) (is_left top) view (none_out top (is_known_as name) view unknown h)
  where
    unknown : (row : Row) → IsHidden row → is_known_as name row ≡ false
    unknown row hides = and_right (has_name name row) (is_disclosed row) hides.disclosed

-- so what is answered where nothing may be said stays
abbrev pub refused : Bool → RdnSequence → LdapResult
refused known name = if known then result_of code.InsufficientAccessRights else result_with code.NoSuchObject name

pub hidden-outside : (top : RdnSequence) (view : View) → AreHidden top view → (name : RdnSequence)
    → hidden (rows_outside top view) name ≡ hidden view name
unfolding hidden
hidden-outside top view h name =
    ap (λ known. refused known (matched_name (rows_outside top view) name)) (discloses-outside top view h name)
    ∙ ap (refused (discloses view name)) (matched_name-outside top view h name)
