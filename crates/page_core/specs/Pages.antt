-- What a search with the control of pages is answered (RFC 2696 3): the entries of one page, and where the next begins.
use Rattle.std.specs.Prelude.{ℕ, ◌==◌, nat_lt, nat_le, Bool, false, not, ◌&&◌, List, [], ◌∷◌, ◌++◌, length, take, map, filter, Option, Some, None, Result, Ok, Err, if◌then◌else◌}
use Rattle.std.specs.List.{list_any}
use Rattle.dir_tree.specs.dn_names.name.Names.{RdnSequence}
use Rattle.dir_tree.specs.dn_names.declared.error.BadName.{BadName}
use Rattle.dir_tree.specs.dn_names.parsing.NameText.{read_name}
use Rattle.dir_tree.specs.dn_names.Printing.{print_name}
use Rattle.ldap_msg.specs.declared.operations.ResultCode.{ResultCode}
use Rattle.ldap_msg.specs.declared.operations.ResultCode.TheVariants as code
use Rattle.ldap_msg.specs.declared.kinds.SearchRequest.{SearchRequest}
use Rattle.ldap_msg.specs.declared.kinds.Reply.{Reply}
use Rattle.ldap_msg.specs.operations.ResultCodes.{code_number}
use Rattle.ldap_msg.specs.declared.kinds.Reply.TheVariants as reply
use Rattle.ldap_msg.specs.declared.operations.Ending.TheVariants as ending
use Rattle.read_model.specs.Views.{View, result_of}
use Rattle.read_model.specs.Selecting.{selected}
use Rattle.read_model.specs.Choosing.{sent_entry}
use Rattle.read_model.specs.SearchReplies.{search_replies, replies_octets}
use Rattle.page_core.specs.declared.page.Page.{Page}
use Rattle.page_core.specs.Endings.{page_end}
use Rattle.page_core.specs.Starts.{start_of, is_after}

-- what is answered: replies, and then the end of a page with a cookie; without one the replies are all
pub record Paged : Type 0 where
  pub replies : List Reply
  pub cookie : Option (List ℕ)

-- the written octets of the end of a page, if there is one
abbrev pub end_octets : ℕ → Option (List ℕ) → List ℕ
end_octets id None = []
end_octets id (Some cookie) = page_end id cookie

-- the written octets of what is answered to the message of this number
unfoldable pub paged_octets : ℕ → Paged → List ℕ
paged_octets id paged = replies_octets id paged.replies ++ end_octets id paged.cookie

-- an answer without the control
abbrev pub unpaged : List Reply → Paged
unpaged replies = record { replies = replies; cookie = None }

-- a search that ends at once with this code
abbrev pub ended : ResultCode → Paged
ended code = unpaged (reply.Ended ending.Done (result_of code) ∷ [])

-- ---- the entries of a page

-- the name of the last entry, and no name where there is none
abbrev pub last_name : View → RdnSequence
last_name [] = []
last_name (row ∷ []) = row.entry.name
last_name (row ∷ next ∷ rows) = last_name (next ∷ rows)

-- the cookie of the next page: the name of the last entry of this one, where there are more
abbrev pub next_cookie : ℕ → View → List ℕ
next_cookie size rows = if nat_lt size (length rows) then print_name (last_name (take size rows)) else []

-- of the entries that are left the first are sent, as many as the size
abbrev pub page_of_rows : SearchRequest → ℕ → View → Paged
page_of_rows request size rows =
    record { replies = map (sent_entry request.selection request.kinds_only) (take size rows); cookie = Some (next_cookie size rows) }

-- ---- the cases, in order

-- the search without a limit
abbrev pub unlimited : SearchRequest → SearchRequest
unlimited request = record request { size = 0 }

-- the search is done with the code success
abbrev pub is_success : Reply → Bool
is_success (reply.Entry name attributes) = false
is_success (reply.Ended ending.Bind result) = false
is_success (reply.Ended ending.Done result) = code_number result.code == code_number code.Success
is_success (reply.Ended ending.Modify result) = false
is_success (reply.Ended ending.Add result) = false
is_success (reply.Ended ending.Delete result) = false
is_success (reply.Ended ending.Rename result) = false
is_success (reply.Ended ending.Compare result) = false
is_success (reply.Extended result name value) = false

-- a page of the entries that are selected behind a name, where the whole search succeeds, and otherwise its answer
unfoldable pub page_after : View → SearchRequest → Option Bool → RdnSequence → ℕ → RdnSequence → Paged
page_after view request subentries base size after =
    if list_any is_success (search_replies view (unlimited request) subentries)
    then page_of_rows request size (filter (is_after after) (selected view request subentries base))
    else unpaged (search_replies view (unlimited request) subentries)

-- a page of no entries ends the listing
abbrev pub page_sized : View → SearchRequest → Option Bool → RdnSequence → ℕ → RdnSequence → Paged
page_sized view request subentries base size after =
    if size == 0 then record { replies = []; cookie = Some [] } else page_after view request subentries base size after

-- unwillingToPerform where the cookie says no name
abbrev pub page_from : View → SearchRequest → Option Bool → RdnSequence → ℕ → Option RdnSequence → Paged
page_from view request subentries base size None = ended code.UnwillingToPerform
page_from view request subentries base size (Some after) = page_sized view request subentries base size after

-- a search that may be paged, by what its base is: the root DSE isn't paged
abbrev pub page_by : View → SearchRequest → Option Bool → Page → Result RdnSequence BadName → Paged
page_by view request subentries page (Err bad) = ended code.InvalidDnSyntax
page_by view request subentries page (Ok []) = unpaged (search_replies view request subentries)
page_by view request subentries page (Ok (rdn ∷ rdns)) =
    page_from view request subentries (rdn ∷ rdns) page.size (start_of page.cookie)

-- the search has a limit, and no more entries may be sent than a page has
abbrev pub fits_page : SearchRequest → ℕ → Bool
fits_page request size = not (request.size == 0) && nat_le request.size size

-- the answer to a search with the control of pages, and with that of subentries or without: as without the control of
-- pages where its limit fits a page
unfoldable pub page_replies : View → SearchRequest → Option Bool → Page → Paged
page_replies view request subentries page =
    if fits_page request page.size then unpaged (search_replies view request subentries)
    else page_by view request subentries page (read_name request.base)
