-- Twins are read alike: each is read as what is left of it without the subtree, and that is the same of both.
use Rattle.std.proofs.Common.{◌≡◌, Bool, true, false, not, List, [], ◌∷◌, Option, sym, ap, ◌∙◌, subst, length, nat_lt, inl, inr, arith}
use Rattle.std.specs.List.{AllByRecursion}
use Rattle.std.specs.Ordering.{ordering_reverse}
use Rattle.std.specs.declared.cmp.Ordering.TheVariants.{Less, Greater}
use Rattle.std.proofs.lemmas.Bool.{cases_Bool, and_parts, ltb-true}
use Rattle.dir_tree.proofs.base_laws_proofs.Theorems.{all_filter}
use Rattle.dir_tree.specs.dn_names.name.Names.{RdnSequence}
use Rattle.dir_tree.specs.dn_names.NameOrder.{name_cmp, is_prefix_of}
use Rattle.dir_tree.proofs.dn_names_proofs.Theorems.{name_cmp_total, name_cmp-prefix}
use Rattle.acdf_filters.proofs.admin_scope_proofs.Theorems.{prefix_chain, in_force-without}
use Rattle.dir_tree.specs.Entry.{EntryInformation}
use Rattle.dir_tree.specs.tree.Trees.{named_in, is_below, IsTree}
use Rattle.dir_tree.specs.Scope.{is_within}
use Rattle.dir_tree.proofs.TreeTheorems.{length-front}
use Rattle.acdf_filters.specs.admin_scope.Areas.{without_subtree}
use Rattle.acdf_filters.specs.admin_scope.InForce.{in_force}
use Rattle.acdf_filters.specs.declared.asking.Requester.{Requester}
use Rattle.acdf_filters.proofs.Theorems.{named-without as named_in-without}
use Rattle.ldap_msg.specs.declared.kinds.SearchRequest.{SearchRequest}
use Rattle.ldap_msg.specs.declared.kinds.Reply.TheVariants as reply
use Rattle.ldap_msg.specs.declared.operations.Ending.TheVariants as ending
use Rattle.ldap_msg.specs.declared.kinds.CompareRequest.{CompareRequest}
use Rattle.read_model.specs.Views.{View, view_of, matched_name, no_such_object, hidden}
use Rattle.read_model.specs.Selecting.{selected}
use Rattle.read_model.specs.SearchReplies.{replies_at, search_replies}
use Rattle.read_model.specs.CompareReplies.{compare_result}
use Rattle.twin_laws.specs.Twins.{is_below_suffix, rows_outside, IsUnseen, AreTwins}
use Rattle.twin_laws.proofs.laws.NameLemmas.{above_outside}
use Rattle.twin_laws.proofs.laws.ViewLemmas.{access_none, view_of-without}
use Rattle.twin_laws.proofs.laws.SeenLemmas.{AreHidden, AreHidden-from_shows_within, matched_name-outside, hidden-outside}
use Rattle.twin_laws.proofs.laws.SearchLemmas.{FirstIsLeft, hidden-within, replies_at-within, selected-outside, search_replies-outside}
use Rattle.twin_laws.proofs.laws.CompareLemmas.{compare_result-outside}

-- what is seen of a tree with an unseen subtree
are_hidden : (who : Requester) (top : RdnSequence) (entries : List EntryInformation) → IsUnseen who top entries
    → AreHidden top (view_of entries who)
are_hidden who top entries h = AreHidden-from_shows_within top (view_of entries who) h.shown

first_is_left : (who : Requester) (top : RdnSequence) (entries : List EntryInformation) → is_below_suffix top entries ≡ true
    → FirstIsLeft top (view_of entries who)
first_is_left who top [] e = tt
first_is_left who top (first ∷ rest) e = above_outside first.name top e

-- what does not count the rows of the subtree is the same without it
module _ {A : Type 0} (who : Requester) (top : RdnSequence) (said : View → A) where
  without : (entries : List EntryInformation) → IsUnseen who top entries
      → said (rows_outside top (view_of entries who)) ≡ said (view_of entries who)
      → said (view_of (without_subtree top entries) who) ≡ said (view_of entries who)
  without entries h same = ap said (view_of-without who top entries h) ∙ same

  -- and so of twins
  alike : (one other : List EntryInformation) → AreTwins who one other top
      → ((entries : List EntryInformation) → IsUnseen who top entries
      → said (rows_outside top (view_of entries who)) ≡ said (view_of entries who))
      → said (view_of one who) ≡ said (view_of other who)
  alike one other h same =
      sym (without one h.first (same one h.first))
      ∙ ap (λ entries. said (view_of entries who)) h.same
      ∙ without other h.second (same other h.second)

pub search_replies-twins : (who : Requester) (one other : List EntryInformation) (top : RdnSequence)
    → AreTwins who one other top → (request : SearchRequest) (subentries : Option Bool)
    → search_replies (view_of one who) request subentries ≡ search_replies (view_of other who) request subentries
search_replies-twins who one other top h request subentries =
    alike who top (λ view. search_replies view request subentries) one other h
    (λ entries unseen. search_replies-outside top (view_of entries who) (are_hidden who top entries unseen)
    (first_is_left who top entries unseen.below) request subentries)

pub compare_result-twins : (who : Requester) (one other : List EntryInformation) (top : RdnSequence)
    → AreTwins who one other top → (request : CompareRequest)
    → compare_result (view_of one who) request ≡ compare_result (view_of other who) request
compare_result-twins who one other top h request =
    alike who top (λ view. compare_result view request) one other h
    (λ entries unseen. compare_result-outside top (view_of entries who) (are_hidden who top entries unseen) request)

pub view_of-twins : (who : Requester) (one other : List EntryInformation) (top : RdnSequence) → AreTwins who one other top
    → rows_outside top (view_of one who) ≡ rows_outside top (view_of other who)
view_of-twins who one other top h =
    sym (view_of-without who top one h.first)
    ∙ ap (λ entries. view_of entries who) h.same
    ∙ view_of-without who top other h.second

pub selected-twins : (who : Requester) (one other : List EntryInformation) (top : RdnSequence) → AreTwins who one other top
    → (request : SearchRequest) (subentries : Option Bool) (base : RdnSequence)
    → selected (view_of one who) request subentries base ≡ selected (view_of other who) request subentries base
selected-twins who one other top h request subentries base =
    alike who top (λ view. selected view request subentries base) one other h
    (λ entries unseen. selected-outside top (view_of entries who) (are_hidden who top entries unseen) request subentries base)

pub matched_name-twins : (who : Requester) (one other : List EntryInformation) (top : RdnSequence) → AreTwins who one other top
    → (name : RdnSequence)
    → matched_name (view_of one who) name ≡ matched_name (view_of other who) name
matched_name-twins who one other top h name =
    alike who top (λ view. matched_name view name) one other h
    (λ entries unseen. matched_name-outside top (view_of entries who) (are_hidden who top entries unseen) name)

pub hidden-twins : (who : Requester) (one other : List EntryInformation) (top : RdnSequence) → AreTwins who one other top
    → (name : RdnSequence)
    → hidden (view_of one who) name ≡ hidden (view_of other who) name
hidden-twins who one other top h name =
    alike who top (λ view. hidden view name) one other h
    (λ entries unseen. hidden-outside top (view_of entries who) (are_hidden who top entries unseen) name)

-- what is said of a name in an unseen subtree
pub replies_at-unseen : (who : Requester) (top : RdnSequence) (entries : List EntryInformation) → IsUnseen who top entries
    → (request : SearchRequest) (subentries : Option Bool) (base : RdnSequence) → is_prefix_of top base ≡ true
    → replies_at (view_of entries who) request subentries base ≡ reply.Ended ending.Done (no_such_object (view_of entries who) base) ∷ []
replies_at-unseen who top entries h request subentries base e =
    replies_at-within top (view_of entries who) (are_hidden who top entries h) request subentries base e

pub hidden-unseen : (who : Requester) (top : RdnSequence) (entries : List EntryInformation) → IsUnseen who top entries
    → (name : RdnSequence) → is_prefix_of top name ≡ true
    → hidden (view_of entries who) name ≡ no_such_object (view_of entries who) name
hidden-unseen who top entries h name e = hidden-within top (view_of entries who) (are_hidden who top entries h) name e

-- the subentries in force for an entry outside
pub in_force-twins : (who : Requester) (one other : List EntryInformation) (top : RdnSequence) → AreTwins who one other top
    → (entry : EntryInformation) → is_within top entry ≡ false
    → in_force one entry ≡ in_force other entry
in_force-twins who one other top h entry outside =
    sym (in_force-without top one entry outside (access_none top one h.first.subentries))
    ∙ ap (λ entries. in_force entries entry) h.same
    ∙ in_force-without top other entry outside (access_none top other h.second.subentries)

-- the entry of a name outside
pub named_in-twins : (who : Requester) (one other : List EntryInformation) (top : RdnSequence) → AreTwins who one other top
    → (name : RdnSequence) → is_prefix_of top name ≡ false
    → named_in name one ≡ named_in name other
named_in-twins who one other top h name outside =
    sym (named_in-without top name one outside) ∙ ap (named_in name) h.same ∙ named_in-without top name other outside

-- what is left of a tree, whose suffix is above the subtree, begins with the suffix
abbrev BeginsAbove : RdnSequence → List EntryInformation → Type 0
BeginsAbove top [] = ⊥
BeginsAbove top (first ∷ rest) = is_below first.name top ≡ true

left_begins : (top : RdnSequence) (entries : List EntryInformation) → is_below_suffix top entries ≡ true
    → BeginsAbove top (without_subtree top entries)
left_begins top [] e = absurd cc
left_begins top (first ∷ rest) e = (let outside = above_outside first.name top e in rw outside e)

-- no entry behind a first one within the subtree is above it
none_above : (top : RdnSequence) (first : EntryInformation) → is_within top first ≡ true → (rest : List EntryInformation)
    → AllByRecursion (λ later. name_cmp first.name later.name ≡ Less) rest → BeginsAbove top rest → ⊥
none_above top first within [] sorted above = above
none_above top first within (later ∷ rest) sorted above =
    let parts = and_parts (is_prefix_of later.name top) (nat_lt (length later.name) (length top)) above in
    let shorter = ltb-true (length later.name) (length top) parts.1 in
    let longer = length-front top first.name within in
    let front = prefix_chain later.name top first.name parts.0 within in
    let before : name_cmp later.name first.name ≡ Less =
    name_cmp-prefix later.name first.name front (omega (arith, shorter, longer)) in
    let after : name_cmp later.name first.name ≡ Greater =
    name_cmp_total.antisymm later.name first.name ∙ ap ordering_reverse sorted.0 in
    let clash = sym before ∙ after in
    absurd cc

-- so a tree of which the same is left has its suffix above the subtree
pub is_below_suffix-same : (one other : List EntryInformation) (top : RdnSequence) → IsTree other
    → without_subtree top one ≡ without_subtree top other → is_below_suffix top one ≡ true → is_below_suffix top other ≡ true
is_below_suffix-same one other top tree same e = begins other tree (subst (BeginsAbove top) same (left_begins top one e))
  where
    begins : (other : List EntryInformation) → IsTree other → BeginsAbove top (without_subtree top other)
        → is_below_suffix top other ≡ true
    begins [] tree above = absurd above
    begins (first ∷ rest) tree above = elim (cases_Bool (is_within top first)) [
      | inl within ↦ absurd (none_above top first within (without_subtree top rest)
          (all_filter (λ later. name_cmp first.name later.name ≡ Less) (λ entry. not (is_within top entry)) rest tree.sorted.0)
          (rw within at above))
      | inr outside ↦ rw outside at above
    ]
