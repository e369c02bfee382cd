-- How a search of a base that may be known of ends.
use Rattle.std.proofs.Common.{◌≡◌, ◌≢◌, ◌⊎◌, inl, inr, ℕ, ◌==◌, Bool, true, ◌&&◌, List, [], ◌∷◌, ◌++◌, Option, Some, Ok, refl, ap, map, length}
use Rattle.std.specs.Prelude.{nat_lt}
use Rattle.std.specs.List.{AllByRecursion, list_any}
use Rattle.std.proofs.lemmas.Bool.{cases_Bool}
use Rattle.dir_tree.proofs.base_laws_proofs.Theorems.{find-passes}
use Rattle.dir_tree.specs.dn_names.name.Names.{RdnSequence}
use Rattle.dir_tree.specs.Entry.{EntryInformation}
use Rattle.dir_tree.specs.tree.Trees.{is_named, named_in}
use Rattle.acdf_filters.specs.aci_item.declared.permission.Permission.TheVariants.{DiscloseOnError}
use Rattle.acdf_filters.specs.declared.asking.Requester.{Requester}
use Rattle.acdf_filters.specs.Asking.{Entry}
use Rattle.acdf_filters.specs.Granted.{granted}
use Rattle.ldap_msg.specs.declared.operations.ResultCode.{ResultCode}
use Rattle.ldap_msg.specs.declared.operations.ResultCode.TheVariants as code
use Rattle.ldap_msg.specs.declared.kinds.SearchRequest.{SearchRequest}
use Rattle.ldap_msg.specs.declared.kinds.Reply.{Reply}
use Rattle.ldap_msg.specs.declared.kinds.Reply.TheVariants as reply
use Rattle.ldap_msg.specs.declared.operations.Ending.TheVariants as ending
use Rattle.read_model.specs.Views.{View, row_of, view_of, has_name, is_disclosed, result_of, discloses}
use Rattle.read_model.specs.Selecting.{selected}
use Rattle.read_model.specs.Choosing.{sent_entry}
use Rattle.read_model.specs.SearchReplies.{within_limit, limit_code, found_replies, replies_at, replies_by, search_replies}
use Rattle.answer_laws.specs.Complete.{HasKnownBase, is_entry, EndsWith}
use Rattle.answer_laws.proofs.laws.FoundLemmas.{any-found}

-- a search that succeeds, or sends as many entries as its limit lets it
abbrev pub Succeeds : List Reply → Type 0
Succeeds replies = (EndsWith code.Success replies) ⊎ (EndsWith code.SizeLimitExceeded replies)

-- what is sent of rows is entries
sent-entries : (selection : List (List ℕ)) (kinds_only : Bool) (rows : View)
    → AllByRecursion (λ reply. is_entry reply ≡ true) (map (sent_entry selection kinds_only) rows)
unfolding sent_entry
sent-entries selection kinds_only [] = tt
sent-entries selection kinds_only (row ∷ rows) = (refl, sent-entries selection kinds_only rows)

limit-codes : (limit : ℕ) (rows : View)
    → (limit_code limit rows ≡ code.Success) ⊎ (limit_code limit rows ≡ code.SizeLimitExceeded)
limit-codes limit rows = elim (cases_Bool (limit == 0)) [
  | inl e ↦ inl (rw e refl)
  | inr e ↦ elim (cases_Bool (nat_lt limit (length rows))) [
    | inl f ↦ inr (rw (e, f) refl)
    | inr f ↦ inl (rw (e, f) refl)
  ]
]

-- rows that are sent, and the end
sent-ends : (selection : List (List ℕ)) (kinds_only : Bool) (rows : View) (one other : ResultCode) → one ≡ other
    → EndsWith other (map (sent_entry selection kinds_only) rows ++ reply.Ended ending.Done (result_of one) ∷ [])
sent-ends selection kinds_only rows one other e = record {
  sent = map (sent_entry selection kinds_only) rows;
  entries = sent-entries selection kinds_only rows;
  ends = ap (λ code. map (sent_entry selection kinds_only) rows ++ reply.Ended ending.Done (result_of code) ∷ []) e;
}

-- whatever is selected
found_replies-succeed : (view : View) (request : SearchRequest) (base : RdnSequence) → discloses view base ≡ true
    → (rows : View) → Succeeds (found_replies view request base rows)
unfolding found_replies
found_replies-succeed view request base known [] = inl (record { sent = []; entries = tt; ends = rw known refl })
found_replies-succeed view request base known (first ∷ rest) = elim (limit-codes request.size (first ∷ rest)) [
  | inl e ↦ inl (sent-ends request.selection request.kinds_only (within_limit request.size (first ∷ rest)) _ _ e)
  | inr e ↦ inr (sent-ends request.selection request.kinds_only (within_limit request.size (first ∷ rest)) _ _ e)
]

-- the entry of the base is among what the requester sees
base-there : (entries : List EntryInformation) (who : Requester) (name : RdnSequence) (entry : EntryInformation)
    → named_in name entries ≡ Some entry → list_any (has_name name) (view_of entries who) ≡ true
base-there entries who name entry found =
    any-found (is_named name) (row_of entries who) (has_name name) entry (find-passes (is_named name) entries entry found) entries found

-- and may be known of
base-known : (entries : List EntryInformation) (who : Requester) (name : RdnSequence) (entry : EntryInformation)
    → named_in name entries ≡ Some entry → granted entries who entry Entry DiscloseOnError ≡ true
    → discloses (view_of entries who) name ≡ true
base-known entries who name entry found known =
    any-found (is_named name) (row_of entries who) (λ row. has_name name row && is_disclosed row) entry
    (rw (find-passes (is_named name) entries entry found, known) refl) entries found

replies_at-succeed : (entries : List EntryInformation) (who : Requester) (request : SearchRequest) (subentries : Option Bool)
    (name : RdnSequence) (entry : EntryInformation) → named_in name entries ≡ Some entry
    → granted entries who entry Entry DiscloseOnError ≡ true
    → Succeeds (replies_at (view_of entries who) request subentries name)
unfolding replies_at
replies_at-succeed entries who request subentries name entry found known =
    rw (base-there entries who name entry found)
    (found_replies-succeed (view_of entries who) request name (base-known entries who name entry found known)
    (selected (view_of entries who) request subentries name))

replies_by-succeed : (entries : List EntryInformation) (who : Requester) (request : SearchRequest) (subentries : Option Bool)
    (name : RdnSequence) (entry : EntryInformation) → name ≢ [] → named_in name entries ≡ Some entry
    → granted entries who entry Entry DiscloseOnError ≡ true
    → Succeeds (replies_by (view_of entries who) request subentries (Ok name))
replies_by-succeed entries who request subentries [] entry filled found known = absurd (filled refl)
replies_by-succeed entries who request subentries (rdn ∷ rdns) entry filled found known =
    replies_at-succeed entries who request subentries (rdn ∷ rdns) entry found known

pub search_replies-succeed : (entries : List EntryInformation) (who : Requester) (request : SearchRequest)
    (subentries : Option Bool) → HasKnownBase entries who request
    → Succeeds (search_replies (view_of entries who) request subentries)
unfolding search_replies
search_replies-succeed entries who request subentries c =
    rw c.reads (replies_by-succeed entries who request subentries c.name c.entry c.filled c.named c.disclosed)
