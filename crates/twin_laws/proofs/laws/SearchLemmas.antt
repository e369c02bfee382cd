-- What a search is answered over a view without rows that show nothing: what it is answered over the view.
use Rattle.std.proofs.Common.{◌≡◌, inl, inr, Bool, true, false, ◌&&◌, List, [], ◌∷◌, Option, Result, Ok, Err, refl, sym, ap, ◌∙◌, if◌then◌else◌}
use Rattle.std.specs.List.{list_any}
use Rattle.std.proofs.lemmas.Bool.{cases_Bool, and_left, and_right, not-false}
use Rattle.dir_tree.proofs.base_laws_proofs.Theorems.{all_map, all_filter, list_any-none, filter-none, filter-filter_kept}
use Rattle.dir_tree.specs.dn_names.name.Names.{RdnSequence}
use Rattle.dir_tree.specs.dn_names.declared.error.BadName.{BadName}
use Rattle.dir_tree.specs.dn_names.NameOrder.{is_prefix_of}
use Rattle.dir_tree.specs.dn_names.parsing.NameText.{read_name}
use Rattle.dir_tree.specs.Scope.{is_within}
use Rattle.acdf_filters.specs.aci_item.declared.permission.Permission.TheVariants.{Browse, ReturnDn}
use Rattle.acdf_filters.specs.Asking.{Entry}
use Rattle.read_model.specs.filter_match.Truth.{truth, is_true}
use Rattle.ldap_msg.specs.declared.operations.ResultCode.TheVariants as code
use Rattle.ldap_msg.specs.declared.kinds.LdapResult.{LdapResult}
use Rattle.ldap_msg.specs.declared.kinds.SearchScope.{SearchScope}
use Rattle.ldap_msg.specs.declared.kinds.SearchScope.TheVariants.{BaseObject, SingleLevel, WholeSubtree}
use Rattle.ldap_msg.specs.declared.kinds.SearchRequest.{SearchRequest}
use Rattle.ldap_msg.specs.declared.kinds.Reply.{Reply}
use Rattle.ldap_msg.specs.declared.kinds.Reply.TheVariants as reply
use Rattle.ldap_msg.specs.declared.operations.Ending.TheVariants as ending
use Rattle.read_model.specs.Views.{Row, View, has_name, is_disclosed, matched_name, result_of, result_with, no_such_object, discloses, hidden}
use Rattle.read_model.specs.Selecting.{takes_in, is_seen, permits_of, is_selected, selected, is_shown, is_found}
use Rattle.read_model.specs.RootEntry.{root_entry, root_replies}
use Rattle.read_model.specs.SearchReplies.{nothing_found, found_replies, replies_at, replies_by, search_replies}
use Rattle.twin_laws.specs.Twins.{rows_outside}
use Rattle.twin_laws.proofs.laws.ListLemmas.{list_any-left}
use Rattle.twin_laws.proofs.laws.NameLemmas.{same_outside, same_within, below_within}
use Rattle.twin_laws.proofs.laws.SeenLemmas.{IsHiddenWithin, AreHidden, none_out, is_left, is_known_as, refused, matched_name-outside, discloses-outside, hidden-outside}

-- how a search ends that selects nothing
abbrev nothing : Bool → RdnSequence → LdapResult
nothing known name = if known then result_of code.Success else result_with code.NoSuchObject name

nothing_found-outside : (top : RdnSequence) (view : View) → AreHidden top view → (name : RdnSequence)
    → nothing_found (rows_outside top view) name ≡ nothing_found view name
nothing_found-outside top view h name =
    ap (λ known. nothing known (matched_name (rows_outside top view) name)) (discloses-outside top view h name)
    ∙ ap (nothing (discloses view name)) (matched_name-outside top view h name)

-- the entries that a search selects stay
unbrowsed : (request : SearchRequest) (subentries : Option Bool) (base : RdnSequence) (row : Row)
    → row.allows Entry Browse ≡ false → is_selected request subentries base row ≡ false
unfolding is_selected
unbrowsed request subentries base row e =
    and_right (takes_in request.scope base row.entry) (is_shown request subentries row) (
    and_right (is_seen request.scope subentries row.entry) (is_found request.filter row) (
    and_left (row.allows Entry Browse && is_true (truth (permits_of row) row.entry request.filter)) (row.allows Entry ReturnDn)
    (and_left (row.allows Entry Browse) (is_true (truth (permits_of row) row.entry request.filter)) e)
    )
    )

pub selected-outside : (top : RdnSequence) (view : View) → AreHidden top view
    → (request : SearchRequest) (subentries : Option Bool) (base : RdnSequence)
    → selected (rows_outside top view) request subentries base ≡ selected view request subentries base
unfolding selected
selected-outside top view h request subentries base =
    filter-filter_kept (is_selected request subentries base) (is_left top) view
    (none_out top (is_selected request subentries base) view
    (λ row hides. unbrowsed request subentries base row hides.browsed) h)

found_replies-outside : (top : RdnSequence) (view : View) → AreHidden top view
    → (request : SearchRequest) (base : RdnSequence) (rows : View)
    → found_replies (rows_outside top view) request base rows ≡ found_replies view request base rows
unfolding found_replies
found_replies-outside top view h request base [] = ap (λ result. reply.Ended ending.Done result ∷ []) (nothing_found-outside top view h base)
found_replies-outside top view h request base (row ∷ rows) = refl

-- a base at or below the name takes in none of the others
takes_in_none : (top base : RdnSequence) (scope : SearchScope) (row : Row) → is_prefix_of top base ≡ true
    → is_within top row.entry ≡ false → takes_in scope base row.entry ≡ false
takes_in_none top base BaseObject row e outside = same_within top base row.entry.name e outside
takes_in_none top base SingleLevel row e outside = and_left (is_within base row.entry) _ (below_within top base row.entry.name e outside)
takes_in_none top base WholeSubtree row e outside = below_within top base row.entry.name e outside

-- so nothing is selected
selected_none : (top : RdnSequence) (view : View) → AreHidden top view
    → (request : SearchRequest) (subentries : Option Bool) (base : RdnSequence) → is_prefix_of top base ≡ true
    → selected view request subentries base ≡ []
unfolding selected is_selected
selected_none top view h request subentries base e =
    filter-none (is_selected request subentries base) view
    (all_map (IsHiddenWithin top) (λ row. is_selected request subentries base row ≡ false) fails view h)
  where
    untaken : (row : Row) → takes_in request.scope base row.entry ≡ false → is_selected request subentries base row ≡ false
    untaken row f = and_left (takes_in request.scope base row.entry) (is_shown request subentries row) f

    fails : (row : Row) → IsHiddenWithin top row → is_selected request subentries base row ≡ false
    fails row hides = elim (cases_Bool (is_within top row.entry)) [
      | inl within ↦ unbrowsed request subentries base row (hides within).browsed
      | inr outside ↦ untaken row (takes_in_none top base request.scope row e outside)
    ]

-- and nothing disclosed
discloses_none : (top : RdnSequence) (view : View) → AreHidden top view → (base : RdnSequence) → is_prefix_of top base ≡ true
    → discloses view base ≡ false
discloses_none top view h base e =
    list_any-none (is_known_as base) view (all_map (IsHiddenWithin top) (λ row. is_known_as base row ≡ false) fails view h)
  where
    fails : (row : Row) → IsHiddenWithin top row → is_known_as base row ≡ false
    fails row hides = elim (cases_Bool (is_within top row.entry)) [
      | inl within ↦ and_right (has_name base row) (is_disclosed row) (hides within).disclosed
      | inr outside ↦ and_left (has_name base row) (is_disclosed row) (same_within top base row.entry.name e outside)
    ]

pub hidden-within : (top : RdnSequence) (view : View) → AreHidden top view → (name : RdnSequence) → is_prefix_of top name ≡ true
    → hidden view name ≡ no_such_object view name
unfolding hidden
hidden-within top view h name e = ap (λ known. refused known (matched_name view name)) (discloses_none top view h name e)

-- so the answer is the same, whether there is an entry of this name or not
pub replies_at-within : (top : RdnSequence) (view : View) → AreHidden top view
    → (request : SearchRequest) (subentries : Option Bool) (base : RdnSequence) → is_prefix_of top base ≡ true
    → replies_at view request subentries base ≡ reply.Ended ending.Done (no_such_object view base) ∷ []
unfolding replies_at found_replies
replies_at-within top view h request subentries base e =
    let undisclosed = discloses_none top view h base e in
    both (list_any (has_name base) view) _ _ _
    (ap (found_replies view request base) (selected_none top view h request subentries base e)
    ∙ ap (λ known. reply.Ended ending.Done (nothing known (matched_name view base)) ∷ []) undisclosed)
    (ap (λ result. reply.Ended ending.Done result ∷ []) (hidden-within top view h base e))
  where
    both : (b : Bool) (x y z : List Reply) → x ≡ z → y ≡ z → (if b then x else y) ≡ z
    both true x y z e f = e
    both false x y z e f = f

-- those that are left are hidden within the name too
left_hidden : (top : RdnSequence) (view : View) → AreHidden top view → AreHidden top (rows_outside top view)
left_hidden top view h = all_filter (IsHiddenWithin top) (is_left top) view h

-- what a search of a name is answered stays
abbrev replies_where : Bool → List Reply → LdapResult → List Reply
replies_where there found refusal = if there then found else reply.Ended ending.Done refusal ∷ []

replies_at-outside : (top : RdnSequence) (view : View) → AreHidden top view
    → (request : SearchRequest) (subentries : Option Bool) (base : RdnSequence)
    → replies_at (rows_outside top view) request subentries base ≡ replies_at view request subentries base
unfolding replies_at
replies_at-outside top view h request subentries base = elim (cases_Bool (is_prefix_of top base)) [
  | inl e ↦ replies_at-within top (rows_outside top view) (left_hidden top view h) request subentries base e
      ∙ ap (λ name. reply.Ended ending.Done (result_with code.NoSuchObject name) ∷ []) (matched_name-outside top view h base)
      ∙ sym (replies_at-within top view h request subentries base e)
  | inr e ↦ elsewhere e
]
  where
    there : is_prefix_of top base ≡ false → list_any (has_name base) (rows_outside top view) ≡ list_any (has_name base) view
    there e =
        list_any-left (has_name base) (is_left top) view
        (all_map (IsHiddenWithin top) (λ row. is_left top row ≡ false → has_name base row ≡ false)
        (λ row hides f. same_outside top base row.entry.name e (not-false (is_within top row.entry) f)) view h)

    elsewhere : is_prefix_of top base ≡ false
        → replies_at (rows_outside top view) request subentries base ≡ replies_at view request subentries base
    elsewhere e =
        let left = rows_outside top view in
        let chosen = selected view request subentries base in
        let is_there = list_any (has_name base) view in
        ap (λ b. replies_where b (found_replies left request base (selected left request subentries base)) (hidden left base))
        (there e)
        ∙ ap (λ rows. replies_where is_there (found_replies left request base rows) (hidden left base))
        (selected-outside top view h request subentries base)
        ∙ ap (λ found. replies_where is_there found (hidden left base)) (found_replies-outside top view h request base chosen)
        ∙ ap (replies_where is_there (found_replies view request base chosen)) (hidden-outside top view h base)

-- the first row, which is the suffix, is left
abbrev pub FirstIsLeft : RdnSequence → View → Type 0
FirstIsLeft top [] = Unit {0}
FirstIsLeft top (row ∷ rows) = is_within top row.entry ≡ false

-- the root DSE says no more of a view than the name of its first row
root_replies-first : (row : Row) (rows others : View) (request : SearchRequest) (subentries : Option Bool)
    → root_replies (row ∷ rows) request subentries ≡ root_replies (row ∷ others) request subentries
unfolding root_replies root_entry
root_replies-first row rows others request subentries = refl

root_replies-outside : (top : RdnSequence) (view : View) → FirstIsLeft top view
    → (request : SearchRequest) (subentries : Option Bool)
    → root_replies (rows_outside top view) request subentries ≡ root_replies view request subentries
root_replies-outside top [] e request subentries = refl
root_replies-outside top (row ∷ rows) e request subentries =
    rw e (root_replies-first row (rows_outside top rows) rows request subentries)

-- so what each search is answered stays
replies_by-outside : (top : RdnSequence) (view : View) → AreHidden top view → FirstIsLeft top view
    → (request : SearchRequest) (subentries : Option Bool) (base : Result RdnSequence BadName)
    → replies_by (rows_outside top view) request subentries base ≡ replies_by view request subentries base
replies_by-outside top view h first request subentries (Err bad) = refl
replies_by-outside top view h first request subentries (Ok []) = root_replies-outside top view first request subentries
replies_by-outside top view h first request subentries (Ok (rdn ∷ rdns)) =
    replies_at-outside top view h request subentries (rdn ∷ rdns)

pub search_replies-outside : (top : RdnSequence) (view : View) → AreHidden top view → FirstIsLeft top view
    → (request : SearchRequest) (subentries : Option Bool)
    → search_replies (rows_outside top view) request subentries ≡ search_replies view request subentries
unfolding search_replies
search_replies-outside top view h first request subentries =
    replies_by-outside top view h first request subentries (read_name request.base)
