-- The answer to a search that succeeds, and that has no limit: all that it selects, and that it is done.
use Rattle.std.proofs.Common.{◌≡◌, ◌≢◌, inl, inr, ℕ, Bool, true, false, cond, List, [], ◌∷◌, ◌++◌, map, Option, Ok, refl, sym, ap, ◌∙◌}
use Rattle.std.specs.List.{list_any}
use Rattle.std.proofs.lemmas.Bool.{cases_Bool}
use Rattle.dir_tree.specs.dn_names.name.Names.{RdnSequence}
use Rattle.ldap_msg.specs.declared.operations.ResultCode.TheVariants as code
use Rattle.ldap_msg.specs.declared.kinds.SearchRequest.{SearchRequest}
use Rattle.ldap_msg.specs.declared.kinds.Reply.{Reply}
use Rattle.ldap_msg.specs.declared.kinds.Reply.TheVariants as reply
use Rattle.ldap_msg.specs.declared.operations.Ending.TheVariants as ending
use Rattle.read_model.specs.Views.{View, has_name, discloses, hidden, no_such_object, result_of}
use Rattle.read_model.specs.Selecting.{selected}
use Rattle.read_model.specs.Choosing.{sent_entry}
use Rattle.read_model.specs.SearchReplies.{within_limit, limit_code, found_replies, replies_at, replies_by, search_replies}
use Rattle.page_core.specs.Endings.{done}
use Rattle.page_core.specs.Pages.{is_success}
use Rattle.page_laws.specs.Listing.{IsListable}

-- the entries as they are sent, and that the search is done
abbrev all_sent : SearchRequest → View → List Reply
all_sent request rows = map (sent_entry request.selection request.kinds_only) rows ++ done ∷ []

-- a search of which nothing may be known does not succeed
hidden_fails : (view : View) (base : RdnSequence) → list_any is_success (reply.Ended ending.Done (hidden view base) ∷ []) ≡ false
unfolding hidden
hidden_fails view base = elim (cases_Bool (discloses view base)) [
  | inl e ↦ rw e refl
  | inr e ↦ rw e refl
]

-- one that selects nothing and succeeds is done
nothing_succeeds : (view : View) (base : RdnSequence) (known : Bool)
    → list_any is_success (reply.Ended ending.Done (cond known (result_of code.Success) (no_such_object view base)) ∷ []) ≡ true
    → reply.Ended ending.Done (cond known (result_of code.Success) (no_such_object view base)) ∷ [] ≡ done ∷ []
nothing_succeeds view base true e = refl
nothing_succeeds view base false e = absurd cc

found_all : (view : View) (request : SearchRequest) (base : RdnSequence) (rows : View) → request.size ≡ 0
    → list_any is_success (found_replies view request base rows) ≡ true → found_replies view request base rows
    ≡ all_sent request rows
unfolding found_replies
found_all view request base [] unlimited succeeds = nothing_succeeds view base (discloses view base) succeeds
found_all view request base (row ∷ rows) unlimited succeeds =
    ap (λ (limit : ℕ). map (sent_entry request.selection request.kinds_only)
    (within_limit limit (row ∷ rows)) ++ reply.Ended ending.Done (result_of (limit_code limit (row ∷ rows))) ∷ [])
    unlimited

at_all : (view : View) (request : SearchRequest) (subentries : Option Bool) (base : RdnSequence) (is_there : Bool)
    → request.size ≡ 0
    → list_any is_success (cond is_there (found_replies view request base (selected view request subentries base))
    (reply.Ended ending.Done (hidden view base) ∷ [])) ≡ true
    → cond is_there (found_replies view request base (selected view request subentries base))
    (reply.Ended ending.Done (hidden view base) ∷ [])
    ≡ all_sent request (selected view request subentries base)
at_all view request subentries base true unlimited succeeds =
    found_all view request base (selected view request subentries base) unlimited succeeds
at_all view request subentries base false unlimited succeeds = let fails = hidden_fails view base in absurd cc

by_name : (view : View) (request : SearchRequest) (subentries : Option Bool) (base : RdnSequence) → base ≢ []
    → replies_by view request subentries (Ok base) ≡ replies_at view request subentries base
by_name view request subentries [] filled = absurd (filled refl)
by_name view request subentries (rdn ∷ rdns) filled = refl

at_base : (view : View) (request : SearchRequest) (subentries : Option Bool)
    (listable : IsListable view request subentries)
    → search_replies view request subentries ≡ replies_at view request subentries listable.base
unfolding search_replies
at_base view request subentries listable =
    ap (replies_by view request subentries) listable.reads ∙ by_name view request subentries listable.base listable.filled

-- what is answered
pub answer_all : (view : View) (request : SearchRequest) (subentries : Option Bool)
    (listable : IsListable view request subentries)
    → search_replies view request subentries ≡ all_sent request (selected view request subentries listable.base)
unfolding replies_at
answer_all view request subentries listable =
    let same = at_base view request subentries listable in
    same ∙ at_all view request subentries listable.base (list_any (has_name listable.base) view) listable.unlimited
    (ap (list_any is_success) (sym same) ∙ listable.succeeds)
