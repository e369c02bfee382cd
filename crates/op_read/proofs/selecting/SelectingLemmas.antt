-- The entries that a search selects, by their numbers.
use Rattle.std.proofs.Common.{◌≡◌, ◌⊎◌, inl, inr, ℕ, Bool, true, false, ◌&&◌, List, [], ◌∷◌, Option, Some, None, refl, sym, ap, ◌∙◌, map, filter}
use Rattle.std.specs.Prelude.{is_some}
use Rattle.std.specs.List.{list_any}
use Rattle.std.proofs.lemmas.Bool.{cases_Bool}
use Rattle.std.proofs.lemmas.List.Elements.{filter_agree}
use Rattle.dir_tree.proofs.base_laws_proofs.Theorems.{list_any-map, find-passes}
use Rattle.dir_tree.specs.dn_names.name.Names.{RdnSequence}
use Rattle.dir_tree.specs.dn_names.NameOrder.{is_same}
use Rattle.dir_tree.specs.Entry.{EntryInformation}
use Rattle.dir_tree.specs.tree.Trees.{is_named, named_in, is_before}
use Rattle.dir_tree.specs.tree.Numbered.{Numbered, IsNumberedTree, entries_of, entries_at, entry_of, find_name}
use Rattle.dir_tree.specs.Scope.{scoped, in_scope, scoped_after, in_scope_after, is_child, is_within}
use Rattle.dir_tree.specs.declared.scope.Scope.TheVariants.{Base, One, Sub}
use Rattle.dir_tree.proofs.TreeTheorems.{entries_at-kept, scoped-One-entries, scoped-Sub-entries, named-found, has_name-find, child_same}
use Rattle.acdf_filters.specs.declared.asking.Requester.{Requester}
use Rattle.ldap_msg.specs.declared.kinds.SearchScope.{SearchScope}
use Rattle.ldap_msg.specs.declared.kinds.SearchScope.TheVariants.{BaseObject, SingleLevel, WholeSubtree}
use Rattle.ldap_msg.specs.declared.kinds.SearchRequest.{SearchRequest}
use Rattle.ldap_msg.specs.declared.kinds.Reply.TheVariants as reply
use Rattle.ldap_msg.specs.declared.operations.Ending.TheVariants as ending
use Rattle.page_core.specs.read_model.Views as views
use Rattle.page_core.specs.read_model.Views.{hidden}
use Rattle.page_core.specs.read_model.SearchReplies.{found_replies, replies_at}
use Rattle.page_core.specs.read_model.Selecting.{takes_in, is_shown, is_selected, selected}
use Rattle.page_core.specs.Starts.{is_after}
use Rattle.directory.specs.Asking.{view_in}
use Rattle.directory.proofs.Theorems.{in-use}
use Rattle.op_read.specs.Seeing.{row_in, one_or_none, scope_of}
use Rattle.op_read.specs.Sending.{shown_among}
use Rattle.op_read.proofs.selecting.ListLemmas.{filter-two, among}
use Rattle.op_read.proofs.selecting.NameLemmas.{named-entries, within-like}

-- the entries of a scope are those that it takes in
base-entries : (id : ℕ) (entry : EntryInformation) (name : RdnSequence) (rows : List Numbered) → IsNumberedTree rows → entry_of id rows ≡ Some entry → named_in name (entries_of rows) ≡ Some entry
    → entries_at rows (scoped Base id rows) ≡ filter (is_named name) (entries_of rows)
base-entries id entry name rows tree known named =
    ap (λ (found : Option EntryInformation). entries_at rows (in_scope Base id found rows)) known
    ∙ single
    ∙ sym (named-entries name (entries_of rows) tree.tree.sorted ∙ ap (one_or_none (λ entry. entry)) named)
  where
    single : entries_at rows (id ∷ []) ≡ entry ∷ []
    single = rw known refl

-- an entry that is found by a name has it
same-name : (name : RdnSequence) (entry : EntryInformation) (rows : List Numbered) → named_in name (entries_of rows) ≡ Some entry → is_same name entry.name ≡ true
same-name name entry rows named = find-passes (is_named name) (entries_of rows) entry named

scope-entries : (scope : SearchScope) (id : ℕ) (entry : EntryInformation) (name : RdnSequence) (rows : List Numbered) → IsNumberedTree rows → entry_of id rows ≡ Some entry → named_in name (entries_of rows) ≡ Some entry
    → entries_at rows (scoped (scope_of scope) id rows) ≡ filter (takes_in scope name) (entries_of rows)
scope-entries BaseObject id entry name rows tree known named = base-entries id entry name rows tree known named
scope-entries SingleLevel id entry name rows tree known named =
    scoped-One-entries id entry rows tree known
    ∙ sym (filter_agree (takes_in SingleLevel name) (is_child entry.name) (λ x. child_same name entry.name x (same-name name entry rows named)) (entries_of rows))
scope-entries WholeSubtree id entry name rows tree known named =
    scoped-Sub-entries id entry rows tree known
    ∙ sym (filter_agree (takes_in WholeSubtree name) (is_within entry.name) (λ x. within-like name entry.name (same-name name entry rows named) x) (entries_of rows))

-- those that are selected
pub selected-among : (request : SearchRequest) (subentries : Option Bool) (name : RdnSequence) (id : ℕ) (rows : List Numbered) (who : Requester) → IsNumberedTree rows → find_name name rows ≡ Some id
    → shown_among (is_shown request subentries) rows who (scoped (scope_of request.scope) id rows) ≡ selected (view_in rows who) request subentries name
unfolding selected is_selected
selected-among request subentries name id rows who tree found =
    let known = in-use rows tree name id found in
    among (λ id. entry_of id rows) (row_in rows who) (is_shown request subentries) (scoped (scope_of request.scope) id rows)
    ∙ ap (λ (entries : List EntryInformation). filter (is_shown request subentries) (map (row_in rows who) entries))
    (scope-entries request.scope id known.0 name rows tree known.1 (named-found name rows tree.distinct id found ∙ known.1))
    ∙ sym (filter-two (row_in rows who) (takes_in request.scope name) (λ row. takes_in request.scope name row.entry) (is_shown request subentries) (λ entry. refl) (entries_of rows))

-- ---- behind a name

-- of the entries that pass a test, those that pass another
filter-filter : {A : Type 0} (p q r : A → Bool) → ((x : A) → r x ≡ (q x && p x)) → (xs : List A) → filter p (filter q xs) ≡ filter r xs
filter-filter p q r is [] = refl
filter-filter p q r is (x ∷ xs) = elim (cases_Bool (q x)) [
  | inl e ↦ elim (cases_Bool (p x)) [
    | inl g ↦ rw (is x, e, g) (ap (λ ys. x ∷ ys) (filter-filter p q r is xs))
    | inr g ↦ rw (is x, e, g) (filter-filter p q r is xs)
  ]
  | inr e ↦ rw (is x, e) (filter-filter p q r is xs)
]

-- the entries of a scope behind a name are those that it takes in and that come after it
base-behind : (id : ℕ) (entry : EntryInformation) (name after : RdnSequence) (rows : List Numbered) → IsNumberedTree rows → entry_of id rows ≡ Some entry → named_in name (entries_of rows) ≡ Some entry
    → entries_at rows (scoped_after Base id after rows) ≡ filter (λ entry. is_named name entry && is_before after entry.name) (entries_of rows)
base-behind id entry name after rows tree known named =
    ap (λ (found : Option EntryInformation). entries_at rows (in_scope_after Base id found after rows)) known
    ∙ single (cases_Bool (is_before after entry.name))
    ∙ ap (λ (entries : List EntryInformation). filter (λ entry. is_before after entry.name) entries)
    (sym (named-entries name (entries_of rows) tree.tree.sorted ∙ ap (one_or_none (λ entry. entry)) named))
    ∙ filter-filter (λ entry. is_before after entry.name) (is_named name) (λ entry. is_named name entry && is_before after entry.name) (λ entry. refl) (entries_of rows)
  where
    single : ((is_before after entry.name ≡ true) ⊎ (is_before after entry.name ≡ false)) → entries_at rows (in_scope_after Base id (Some entry) after rows) ≡ filter (λ entry. is_before after entry.name) (entry ∷ [])
    single (inl e) = rw (e, known) refl
    single (inr e) = rw e refl

behind-entries : (scope : SearchScope) (id : ℕ) (entry : EntryInformation) (name after : RdnSequence) (rows : List Numbered) → IsNumberedTree rows → entry_of id rows ≡ Some entry → named_in name (entries_of rows) ≡ Some entry
    → entries_at rows (scoped_after (scope_of scope) id after rows) ≡ filter (λ entry. takes_in scope name entry && is_before after entry.name) (entries_of rows)
behind-entries BaseObject id entry name after rows tree known named = base-behind id entry name after rows tree known named
behind-entries SingleLevel id entry name after rows tree known named =
    ap (λ (found : Option EntryInformation). entries_at rows (in_scope_after One id found after rows)) known
    ∙ entries_at-kept (λ x. is_child entry.name x && is_before after x.name) rows tree.distinct
    ∙ sym (filter_agree (λ x. takes_in SingleLevel name x && is_before after x.name) (λ x. is_child entry.name x && is_before after x.name)
    (λ x. ap (λ takes. takes && is_before after x.name) (child_same name entry.name x (same-name name entry rows named))) (entries_of rows))
behind-entries WholeSubtree id entry name after rows tree known named =
    ap (λ (found : Option EntryInformation). entries_at rows (in_scope_after Sub id found after rows)) known
    ∙ entries_at-kept (λ x. is_within entry.name x && is_before after x.name) rows tree.distinct
    ∙ sym (filter_agree (λ x. takes_in WholeSubtree name x && is_before after x.name) (λ x. is_within entry.name x && is_before after x.name)
    (λ x. ap (λ takes. takes && is_before after x.name) (within-like name entry.name (same-name name entry rows named) x)) (entries_of rows))

-- three tests
tests-three : (takes behind shown : Bool) → ((takes && behind) && shown) ≡ ((takes && shown) && behind)
tests-three true true true = refl
tests-three true true false = refl
tests-three true false true = refl
tests-three true false false = refl
tests-three false behind shown = refl

-- those that are selected and come after the name
pub listed-among : (request : SearchRequest) (subentries : Option Bool) (name after : RdnSequence) (id : ℕ) (rows : List Numbered) (who : Requester) → IsNumberedTree rows → find_name name rows ≡ Some id
    → shown_among (is_shown request subentries) rows who (scoped_after (scope_of request.scope) id after rows) ≡ filter (is_after after) (selected (view_in rows who) request subentries name)
unfolding selected is_selected
listed-among request subentries name after id rows who tree found =
    let known = in-use rows tree name id found in
    let takes = λ (entry : EntryInformation). takes_in request.scope name entry && is_before after entry.name in
    among (λ id. entry_of id rows) (row_in rows who) (is_shown request subentries) (scoped_after (scope_of request.scope) id after rows)
    ∙ ap (λ (entries : List EntryInformation). filter (is_shown request subentries) (map (row_in rows who) entries))
    (behind-entries request.scope id known.0 name after rows tree known.1 (named-found name rows tree.distinct id found ∙ known.1))
    ∙ sym (filter-two (row_in rows who) takes (λ row. takes row.entry) (is_shown request subentries) (λ entry. refl) (entries_of rows))
    ∙ sym (filter-filter (is_after after) (λ row. takes_in request.scope name row.entry && is_shown request subentries row) (λ row. takes row.entry && is_shown request subentries row)
    (λ row. tests-three (takes_in request.scope name row.entry) (is_before after row.entry.name) (is_shown request subentries row)) (view_in rows who))

-- ---- a base that is a name

pub named-rows : (rows : List Numbered) (who : Requester) (name : RdnSequence) → list_any (views.has_name name) (view_in rows who) ≡ is_some (find_name name rows)
named-rows rows who name = list_any-map (row_in rows who) (views.has_name name) (entries_of rows) ∙ has_name-find name rows

pub replies-found : (rows : List Numbered) (who : Requester) (request : SearchRequest) (subentries : Option Bool) (name : RdnSequence) (id : ℕ) → find_name name rows ≡ Some id
    → found_replies (view_in rows who) request name (selected (view_in rows who) request subentries name) ≡ replies_at (view_in rows who) request subentries name
unfolding replies_at
replies-found rows who request subentries name id e = rw (named-rows rows who name ∙ ap is_some e) refl

pub replies-none : (rows : List Numbered) (who : Requester) (request : SearchRequest) (subentries : Option Bool) (name : RdnSequence) → find_name name rows ≡ None
    → reply.Ended ending.Done (hidden (view_in rows who) name) ∷ [] ≡ replies_at (view_in rows who) request subentries name
unfolding replies_at
replies-none rows who request subentries name e = rw (named-rows rows who name ∙ ap is_some e) refl
