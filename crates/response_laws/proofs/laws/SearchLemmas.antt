-- What a search is answered, page by page or not: entries, and then one search done.
use Rattle.std.proofs.Common.{◌≡◌, ℕ, ◌==◌, Bool, true, false, if◌then◌else◌, List, [], ◌∷◌, ◌++◌, map, filter, Option, Some, None, Result, Ok, Err, refl, ap, ◌∙◌}
use Rattle.std.specs.List.{AllByRecursion, list_any}
use Rattle.std.proofs.lemmas.List.{map-append}
use Rattle.dir_tree.specs.dn_names.name.Names.{RdnSequence}
use Rattle.dir_tree.specs.dn_names.declared.error.BadName.{BadName}
use Rattle.dir_tree.specs.dn_names.parsing.NameText.{read_name}
use Rattle.ldap_msg.specs.declared.operations.ResultCode.{ResultCode}
use Rattle.ldap_msg.specs.declared.operations.ResultCode.TheVariants as code
use Rattle.ldap_msg.specs.declared.kinds.SearchRequest.{SearchRequest}
use Rattle.ldap_msg.specs.Search.{is_base}
use Rattle.ldap_msg.specs.declared.kinds.Reply.{Reply}
use Rattle.ldap_msg.specs.declared.kinds.Reply.TheVariants as reply
use Rattle.ldap_msg.specs.declared.operations.Ending.TheVariants as ending
use Rattle.ldap_msg.specs.declared.operations.Response.TheVariants as response
use Rattle.ldap_msg.specs.Replies.{response_for}
use Rattle.read_model.specs.Views.{View, has_name, hidden, result_of}
use Rattle.read_model.specs.Selecting.{selected}
use Rattle.read_model.specs.Choosing.{sent_entry}
use Rattle.read_model.specs.RootEntry.{finds_root, root_entry, root_replies}
use Rattle.read_model.specs.SearchReplies.{within_limit, limit_code, nothing_found, found_replies, replies_at, replies_by, search_replies}
use Rattle.page_core.specs.declared.page.Page.{Page}
use Rattle.page_core.specs.Starts.{start_of, is_after}
use Rattle.page_core.specs.Pages.{Paged, unpaged, ended, next_cookie, unlimited, is_success, page_of_rows, page_after, page_sized, page_from, page_by, fits_page, page_replies}
use Rattle.response_laws.specs.Responses.{Sent, Plain, PageEnd, kind_of, EndsWithOne}

-- a test chooses one of two that both pass
pub by_test : {A : Type 0} (P : A → Type 0) (test : Bool) (one other : A) → P one → P other → P (if test then one else other)
by_test P true one other first second = first
by_test P false one other first second = second

-- the messages of replies, and of the end of a page behind them, if there is one
abbrev pub sent_by : List Reply → Option (List ℕ) → List Sent
sent_by replies None = map Plain replies
sent_by replies (Some cookie) = map Plain replies ++ PageEnd cookie ∷ []

-- a paged answer is entries and one search done
abbrev pub IsDone : Paged → Type 0
IsDone paged = EndsWithOne (response.Ended ending.Done) (sent_by paged.replies paged.cookie)

-- so replies are
record AreDone (replies : List Reply) : Type 0 where
  pub entries : List Reply
  pub last : Reply
  pub are : replies ≡ entries ++ last ∷ []
  pub each : AllByRecursion (λ one. response_for one ≡ response.Entry) entries
  pub ends : response_for last ≡ response.Ended ending.Done

plain-entries : (entries : List Reply) → AllByRecursion (λ one. response_for one ≡ response.Entry) entries
    → AllByRecursion (λ one. kind_of one ≡ response.Entry) (map Plain entries)
plain-entries [] each = tt
plain-entries (first ∷ rest) each = (each.0, plain-entries rest each.1)

unpaged-done : (replies : List Reply) → AreDone replies → IsDone (unpaged replies)
unpaged-done replies done = record {
  entries = map Plain done.entries;
  last = Plain done.last;
  are = ap (map Plain) done.are ∙ map-append Plain done.entries (done.last ∷ []);
  each = plain-entries done.entries done.each;
  ends = done.ends;
  others_none = λ other. absurd (other refl);
}

alone : (last : Reply) → response_for last ≡ response.Ended ending.Done → AreDone (last ∷ [])
alone last is = record { entries = []; last = last; are = refl; each = tt; ends = is }

pub ended-done : (code : ResultCode) → IsDone (ended code)
ended-done code = unpaged-done (reply.Ended ending.Done (result_of code) ∷ []) (alone (reply.Ended ending.Done (result_of code)) refl)

-- ---- without pages

entries-sent : (selection : List (List ℕ)) (kinds_only : Bool) (rows : View)
    → AllByRecursion (λ one. response_for one ≡ response.Entry) (map (sent_entry selection kinds_only) rows)
unfolding sent_entry
entries-sent selection kinds_only [] = tt
entries-sent selection kinds_only (row ∷ rows) = (refl, entries-sent selection kinds_only rows)

found_replies-done : (view : View) (request : SearchRequest) (base : RdnSequence) (rows : View) → AreDone (found_replies view request base rows)
unfolding found_replies
found_replies-done view request base [] = alone (reply.Ended ending.Done (nothing_found view base)) refl
found_replies-done view request base (first ∷ rest) = record {
  entries = map (sent_entry request.selection request.kinds_only) (within_limit request.size (first ∷ rest));
  last = reply.Ended ending.Done (result_of (limit_code request.size (first ∷ rest)));
  are = refl;
  each = entries-sent request.selection request.kinds_only (within_limit request.size (first ∷ rest));
  ends = refl;
}

replies_at-done : (view : View) (request : SearchRequest) (subentries : Option Bool) (base : RdnSequence) → AreDone (replies_at view request subentries base)
unfolding replies_at
replies_at-done view request subentries base =
    by_test AreDone (list_any (has_name base) view) _ _ (found_replies-done view request base (selected view request subentries base))
    (alone (reply.Ended ending.Done (hidden view base)) refl)

root_replies-done : (view : View) (request : SearchRequest) (subentries : Option Bool) → AreDone (root_replies view request subentries)
unfolding root_replies root_entry
root_replies-done view request subentries =
    by_test AreDone (is_base request.scope) _ _ (found (finds_root request subentries)) (alone (reply.Ended ending.Done (result_of code.NoSuchObject)) refl)
  where
    found : (test : Bool) → AreDone ((if test then root_entry view request ∷ [] else []) ++ reply.Ended ending.Done (result_of code.Success) ∷ [])
    found true = record { entries = root_entry view request ∷ []; last = reply.Ended ending.Done (result_of code.Success); are = refl; each = (refl, tt); ends = refl }
    found false = alone (reply.Ended ending.Done (result_of code.Success)) refl

replies_by-done : (view : View) (request : SearchRequest) (subentries : Option Bool) (read : Result RdnSequence BadName) → AreDone (replies_by view request subentries read)
replies_by-done view request subentries (Err bad) = alone (reply.Ended ending.Done (result_of code.InvalidDnSyntax)) refl
replies_by-done view request subentries (Ok []) = root_replies-done view request subentries
replies_by-done view request subentries (Ok (rdn ∷ rdns)) = replies_at-done view request subentries (rdn ∷ rdns)

pub search_replies-done : (view : View) (request : SearchRequest) (subentries : Option Bool) → IsDone (unpaged (search_replies view request subentries))
unfolding search_replies
search_replies-done view request subentries =
    unpaged-done (search_replies view request subentries) (replies_by-done view request subentries (read_name request.base))

-- ---- with pages

page_of_rows-done : (request : SearchRequest) (size : ℕ) (rows : View) → IsDone (page_of_rows request size rows)
page_of_rows-done request size rows = page_end-done (page_of_rows request size rows).replies (next_cookie size rows) (entries-sent request.selection request.kinds_only _)
  where
    page_end-done : (entries : List Reply) (cookie : List ℕ) → AllByRecursion (λ one. response_for one ≡ response.Entry) entries
        → EndsWithOne (response.Ended ending.Done) (sent_by entries (Some cookie))
    page_end-done entries cookie each = record {
      entries = map Plain entries;
      last = PageEnd cookie;
      are = refl;
      each = plain-entries entries each;
      ends = refl;
      others_none = λ other. absurd (other refl);
    }

page_after-done : (view : View) (request : SearchRequest) (subentries : Option Bool) (base : RdnSequence) (size : ℕ) (after : RdnSequence)
    → IsDone (page_after view request subentries base size after)
unfolding page_after
page_after-done view request subentries base size after =
    by_test IsDone (list_any is_success (search_replies view (unlimited request) subentries)) _ _
    (page_of_rows-done request size (filter (is_after after) (selected view request subentries base)))
    (search_replies-done view (unlimited request) subentries)

page_sized-done : (view : View) (request : SearchRequest) (subentries : Option Bool) (base : RdnSequence) (size : ℕ) (after : RdnSequence)
    → IsDone (page_sized view request subentries base size after)
page_sized-done view request subentries base size after =
    by_test IsDone (size == 0) (record { replies = []; cookie = Some [] }) _
    (record { entries = []; last = PageEnd []; are = refl; each = tt; ends = refl; others_none = λ other. refl })
    (page_after-done view request subentries base size after)

page_from-done : (view : View) (request : SearchRequest) (subentries : Option Bool) (base : RdnSequence) (size : ℕ) (after : Option RdnSequence)
    → IsDone (page_from view request subentries base size after)
page_from-done view request subentries base size None = ended-done code.UnwillingToPerform
page_from-done view request subentries base size (Some after) = page_sized-done view request subentries base size after

page_by-done : (view : View) (request : SearchRequest) (subentries : Option Bool) (page : Page) (read : Result RdnSequence BadName)
    → IsDone (page_by view request subentries page read)
page_by-done view request subentries page (Err bad) = ended-done code.InvalidDnSyntax
page_by-done view request subentries page (Ok []) = search_replies-done view request subentries
page_by-done view request subentries page (Ok (rdn ∷ rdns)) = page_from-done view request subentries (rdn ∷ rdns) page.size (start_of page.cookie)

pub page_replies-done : (view : View) (request : SearchRequest) (subentries : Option Bool) (page : Page) → IsDone (page_replies view request subentries page)
unfolding page_replies
page_replies-done view request subentries page =
    by_test IsDone (fits_page request page.size) _ _ (search_replies-done view request subentries)
    (page_by-done view request subentries page (read_name request.base))
