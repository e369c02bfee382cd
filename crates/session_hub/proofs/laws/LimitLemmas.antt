-- What a server's limit on searches keeps, and how many entries a search then sends.
use Rattle.std.proofs.Common.{◌≡◌, ◌≤◌, ◌<◌, ℕ, ◌==◌, Bool, true, false, List, [], ◌∷◌, ◌++◌, length, map, take, filter, Option, Some, None, Result, Ok, Err, if◌then◌else◌, inl, inr, refl, ap, sym, ◌∙◌, true≢false, arith, length-take}
use Rattle.std.proofs.lemmas.Bool.Decides.{nat_tests}
use Rattle.std.proofs.lemmas.Bool.{cases_Bool}
use Rattle.std.proofs.lemmas.List.{length-map}
use Rattle.std.specs.List.{list_any}
use Rattle.dir_tree.specs.dn_names.name.Names.{RdnSequence, TypeAndValue}
use Rattle.dir_tree.specs.dn_names.parsing.NameText.{read_name}
use Rattle.dir_tree.specs.dn_names.declared.error.BadName.{BadName}
use Rattle.session_model.specs.ldap_msg.declared.kinds.SearchRequest.{SearchRequest}
use Rattle.session_model.specs.ldap_msg.Search.{is_base}
use Rattle.session_model.specs.ldap_msg.declared.kinds.Request.{Request}
use Rattle.session_model.specs.ldap_msg.declared.kinds.Request.TheVariants as request
use Rattle.session_model.specs.ldap_msg.declared.kinds.Control.{Control}
use Rattle.session_model.specs.ldap_msg.declared.kinds.Message.{Message}
use Rattle.session_model.specs.ldap_msg.declared.kinds.LdapResult.{LdapResult}
use Rattle.session_model.specs.ldap_msg.declared.kinds.Reply.{Reply}
use Rattle.session_model.specs.ldap_msg.declared.kinds.Reply.TheVariants as reply
use Rattle.session_model.specs.ldap_msg.declared.operations.Ending.TheVariants as ending
use Rattle.session_model.specs.ldap_msg.declared.operations.ResultCode.TheVariants as code
use Rattle.op_read.specs.read_model.Views.{View, has_name, hidden, view_of, result_of}
use Rattle.op_read.specs.read_model.Selecting.{selected}
use Rattle.op_read.specs.read_model.Choosing.{sent_entry}
use Rattle.op_read.specs.read_model.RootEntry.{finds_root, root_entry, root_replies}
use Rattle.op_read.specs.read_model.SearchReplies.{within_limit, limit_code, found_replies, replies_at, replies_by, search_replies}
use Rattle.op_read.specs.page_core.declared.page.Page.{Page}
use Rattle.op_read.specs.page_core.Starts.{start_of, is_after}
use Rattle.op_read.specs.page_core.Pages.{page_of_rows, unlimited, is_success, page_after, page_from, page_by, fits_page, page_replies}
use Rattle.session_hub.specs.Parties.{DirectoryEntries, Requester}
use Rattle.session_hub.specs.Controls.{is_refused, subentries_asked, page_asked}
use Rattle.session_hub.specs.Answering.{Operated, searched, refused, operated, answered}
use Rattle.session_hub.specs.Limiting.{lesser_limit, limited, limited_request, limited_message, IsWithin, IsLimitedTo, KeepsAsked, entries_among}

-- the lesser limit is one, and within the server's
lesser_within : (limit size : ℕ) → 0 < limit → IsWithin limit (lesser_limit limit size)
lesser_within limit size some = record { some = grind (arith, nat_tests); within = grind (arith, nat_tests) }

limited-to : (limit : ℕ) (asked : Request) → IsLimitedTo limit asked (limited_request limit asked)
limited-to limit (request.Bind bind) = refl
limited-to limit request.Unbind = refl
limited-to limit (request.Search search) = (lesser_limit limit search.size, refl, lesser_within limit search.size)
limited-to limit (request.Update update) = refl
limited-to limit (request.Compare compare) = refl
limited-to limit (request.Abandon id) = refl
limited-to limit (request.Extended name value) = refl

pub keeps_asked : (limit : ℕ) (message : Message) → KeepsAsked limit message (limited_message limit message)
keeps_asked limit message = record { id = refl; controls = refl; request = limited-to limit message.request }

-- without a limit all is kept
limited_request-none : (asked : Request) → limited_request 0 asked ≡ asked
limited_request-none (request.Bind bind) = refl
limited_request-none request.Unbind = refl
limited_request-none (request.Search search) = refl
limited_request-none (request.Update update) = refl
limited_request-none (request.Compare compare) = refl
limited_request-none (request.Abandon id) = refl
limited_request-none (request.Extended name value) = refl

pub limited_none : (message : Message) → limited_message 0 message ≡ message
limited_none message = ap (λ (asked : Request). let now : Message = record message { request = asked } in now) (limited_request-none message.request)

-- no more entries than replies, and none in the end of a search
entries-le : (replies : List Reply) → entries_among replies ≤ length replies
entries-le [] = omega arith
entries-le (reply ∷ replies) = let rest = entries-le replies in grind (arith, nat_tests, rest)

entries-done : (replies : List Reply) (ended : LdapResult) → entries_among (replies ++ reply.Ended ending.Done ended ∷ []) ≡ entries_among replies
entries-done [] ended = refl
entries-done (reply ∷ replies) ended = let rest = entries-done replies ended in grind (arith, nat_tests, rest)

-- what is found is sent up to the limit
length-within : (limit : ℕ) (rows : View) → 0 < limit → length (within_limit limit rows) ≤ limit
length-within limit rows some = grind (arith, nat_tests, length-take limit rows)

found_sends : (view : View) (asked : SearchRequest) (base : RdnSequence) (rows : View) → 0 < asked.size → entries_among (found_replies view asked base rows) ≤ asked.size
unfolding found_replies
found_sends view asked base [] some = omega arith
found_sends view asked base (first ∷ rest) some =
    let sent = map (sent_entry asked.selection asked.kinds_only) (within_limit asked.size (first ∷ rest)) in
    let ended = result_of (limit_code asked.size (first ∷ rest)) in
    let end : entries_among (sent ++ reply.Ended ending.Done ended ∷ []) ≡ entries_among sent = entries-done sent ended in
    let few : entries_among sent ≤ length sent = entries-le sent in
    let same : length sent ≡ length (within_limit asked.size (first ∷ rest)) = length-map (within_limit asked.size (first ∷ rest)) (sent_entry asked.selection asked.kinds_only) in
    let all : length (within_limit asked.size (first ∷ rest)) ≤ asked.size = length-within asked.size (first ∷ rest) some in
    omega arith

-- of a choice each part sends no more
either_sends : (first : Bool) (xs ys : List Reply) (n : ℕ) → entries_among xs ≤ n → entries_among ys ≤ n → entries_among (if first then xs else ys) ≤ n
either_sends true xs ys n one other = one
either_sends false xs ys n one other = other

at_sends : (view : View) (asked : SearchRequest) (subentries : Option Bool) (base : RdnSequence) → 0 < asked.size → entries_among (replies_at view asked subentries base) ≤ asked.size
unfolding replies_at
at_sends view asked subentries base some =
    either_sends (list_any (has_name base) view) (found_replies view asked base (selected view asked subentries base)) (reply.Ended ending.Done (hidden view base) ∷ []) asked.size
    (found_sends view asked base (selected view asked subentries base) some) (omega arith)

-- the root DSE is one entry
root_sends : (view : View) (asked : SearchRequest) (subentries : Option Bool) → 0 < asked.size → entries_among (root_replies view asked subentries) ≤ asked.size
unfolding root_replies
root_sends view asked subentries some =
    let found : List Reply = if finds_root asked subentries then root_entry view asked ∷ [] else [] in
    let one : entries_among found ≤ length found = entries-le found in
    let short : length found ≤ 1 = one_at_most (finds_root asked subentries) (root_entry view asked) in
    let end : entries_among (found ++ reply.Ended ending.Done (result_of code.Success) ∷ []) ≡ entries_among found = entries-done found (result_of code.Success) in
    either_sends (is_base asked.scope) (found ++ reply.Ended ending.Done (result_of code.Success) ∷ []) (reply.Ended ending.Done (result_of code.NoSuchObject) ∷ []) asked.size (omega arith) (omega arith)
  where
    one_at_most : (b : Bool) (entry : Reply) → length (if b then entry ∷ [] else []) ≤ 1
    one_at_most true entry = omega arith
    one_at_most false entry = omega arith

by_sends : (view : View) (asked : SearchRequest) (subentries : Option Bool) (base : Result RdnSequence BadName) → 0 < asked.size → entries_among (replies_by view asked subentries base) ≤ asked.size
by_sends view asked subentries (Err bad) some = omega arith
by_sends view asked subentries (Ok []) some = root_sends view asked subentries some
by_sends view asked subentries (Ok (rdn ∷ rdns)) some = at_sends view asked subentries (rdn ∷ rdns) some

search_sends : (view : View) (asked : SearchRequest) (subentries : Option Bool) → 0 < asked.size → entries_among (search_replies view asked subentries) ≤ asked.size
unfolding search_replies
search_sends view asked subentries some = by_sends view asked subentries (read_name asked.base) some

-- a page has at most so many rows
page_sends : (asked : SearchRequest) (size : ℕ) (rows : View) → size ≤ asked.size → entries_among (page_of_rows asked size rows).replies ≤ asked.size
page_sends asked size rows small =
    let sent = map (sent_entry asked.selection asked.kinds_only) (take size rows) in
    let few : entries_among sent ≤ length sent = entries-le sent in
    let same : length sent ≡ length (take size rows) = length-map (take size rows) (sent_entry asked.selection asked.kinds_only) in
    let all : length (take size rows) ≤ size = grind (arith, nat_tests, length-take size rows) in
    omega arith

-- of two lists one, of which both meet a fact
either_list : (P : List Reply → Type 0) (first : Bool) (xs ys : List Reply) → P xs → P ys → P (if first then xs else ys)
either_list P true xs ys one other = one
either_list P false xs ys one other = other

-- replies that end with success, or that send no entry: where one is found and there is no limit a search succeeds
abbrev SendsOrNone : List Reply → Type 0
SendsOrNone replies = list_any is_success replies ≡ false → entries_among replies ≡ 0

success-last : (sent : List Reply) → list_any is_success (sent ++ reply.Ended ending.Done (result_of code.Success) ∷ []) ≡ true
success-last [] = refl
success-last (first ∷ rest) = let last = success-last rest in grind (arith, last)

found_none : (view : View) (asked : SearchRequest) (base : RdnSequence) (rows : View) → SendsOrNone (found_replies view (unlimited asked) base rows)
unfolding found_replies
found_none view asked base [] fails = refl
found_none view asked base (first ∷ rest) fails =
    absurd (true≢false (sym (success-last (map (sent_entry asked.selection asked.kinds_only) (first ∷ rest))) ∙ fails))

at_none : (view : View) (asked : SearchRequest) (subentries : Option Bool) (base : RdnSequence) → SendsOrNone (replies_at view (unlimited asked) subentries base)
unfolding replies_at
at_none view asked subentries base =
    either_list SendsOrNone (list_any (has_name base) view) (found_replies view (unlimited asked) base (selected view (unlimited asked) subentries base))
    (reply.Ended ending.Done (hidden view base) ∷ []) (found_none view asked base (selected view (unlimited asked) subentries base)) (λ fails. refl)

-- a page of a named base
named_none : (view : View) (asked : SearchRequest) (subentries : Option Bool) (rdn : List TypeAndValue) (rdns : RdnSequence) → read_name asked.base ≡ Ok (rdn ∷ rdns)
    → SendsOrNone (search_replies view (unlimited asked) subentries)
unfolding search_replies
named_none view asked subentries rdn rdns is = rw is (at_none view asked subentries (rdn ∷ rdns))

after_sends : (view : View) (asked : SearchRequest) (subentries : Option Bool) (base : RdnSequence) (size : ℕ) (after : RdnSequence) → size ≤ asked.size
    → SendsOrNone (search_replies view (unlimited asked) subentries) → entries_among (page_after view asked subentries base size after).replies ≤ asked.size
unfolding page_after
after_sends view asked subentries base size after small none =
    elim (cases_Bool (list_any is_success (search_replies view (unlimited asked) subentries))) [
      | inl e ↦ rw e (page_sends asked size (filter (is_after after) (selected view asked subentries base)) small)
      | inr e ↦ rw e (let zero = none e in omega arith)
    ]

from_sends : (view : View) (asked : SearchRequest) (subentries : Option Bool) (base : RdnSequence) (size : ℕ) (start : Option RdnSequence) → size ≤ asked.size
    → SendsOrNone (search_replies view (unlimited asked) subentries) → entries_among (page_from view asked subentries base size start).replies ≤ asked.size
from_sends view asked subentries base size None small none = omega arith
from_sends view asked subentries base size (Some after) small none =
    elim (cases_Bool (size == 0)) [
      | inl e ↦ rw e (omega arith)
      | inr e ↦ rw e (after_sends view asked subentries base size after small none)
    ]

by_pages : (view : View) (asked : SearchRequest) (subentries : Option Bool) (page : Page) (base : Result RdnSequence BadName) → read_name asked.base ≡ base → 0 < asked.size
    → page.size ≤ asked.size → entries_among (page_by view asked subentries page base).replies ≤ asked.size
by_pages view asked subentries page (Err bad) is some small = omega arith
by_pages view asked subentries page (Ok []) is some small = search_sends view asked subentries some
by_pages view asked subentries page (Ok (rdn ∷ rdns)) is some small =
    from_sends view asked subentries (rdn ∷ rdns) page.size (start_of page.cookie) small (named_none view asked subentries rdn rdns is)

page_replies_sends : (view : View) (asked : SearchRequest) (subentries : Option Bool) (page : Page) → 0 < asked.size
    → entries_among (page_replies view asked subentries page).replies ≤ asked.size
unfolding page_replies
page_replies_sends view asked subentries page some =
    elim (cases_Bool (fits_page asked page.size)) [
      | inl e ↦ rw e (search_sends view asked subentries some)
      | inr e ↦ rw e (by_pages view asked subentries page (read_name asked.base) refl some (small_page asked page.size some e))
    ]
  where
    small_page : (asked : SearchRequest) (size : ℕ) → 0 < asked.size → fits_page asked size ≡ false → size ≤ asked.size
    small_page asked size some fits = grind (arith, nat_tests, some, fits)

searched_sends : (view : View) (asked : SearchRequest) (subentries : Option (Option Bool)) (page : Option (Option Page)) → 0 < asked.size
    → entries_among (searched view asked subentries page).replies ≤ asked.size
searched_sends view asked None page some = omega arith
searched_sends view asked (Some subentries) None some = omega arith
searched_sends view asked (Some subentries) (Some None) some = search_sends view asked subentries some
searched_sends view asked (Some subentries) (Some (Some page)) some = page_replies_sends view asked subentries page some

-- a search that a control refuses sends none
either_answers : (first : Bool) (a b : Operated) (n : ℕ) → entries_among a.replies ≤ n → entries_among b.replies ≤ n → entries_among (if first then a else b).replies ≤ n
either_answers true a b n one other = one
either_answers false a b n one other = other

pub limited_sends : (limit : ℕ) (entries : DirectoryEntries) (who : Requester) (controls : List Control) (search : SearchRequest) → 0 < limit →
    entries_among (answered entries who controls (limited_request limit (request.Search search))).replies ≤ limit
limited_sends limit entries who controls search some =
    let now = limited limit search in
    let within = lesser_within limit search.size some in
    let few : entries_among (searched (view_of entries who) now (subentries_asked controls) (page_asked controls)).replies ≤ now.size =
    searched_sends (view_of entries who) now (subentries_asked controls) (page_asked controls) within.some in
    let size : now.size ≤ limit = within.within in
    either_answers (is_refused (request.Search now) controls) (refused entries who (request.Search now)) (operated entries who controls (request.Search now)) limit (omega arith) (omega arith)
