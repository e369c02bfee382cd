-- A search by pages (RFC 2696), by what its base and its cookie are.
use Rattle.std.specs.Prelude.{ℕ, ◌==◌, Bool, ◌||◌, List, [], ◌∷◌, filter, Option, Some, None, if◌then◌else◌}
use Rattle.std.specs.List.{list_any}
use Rattle.dir_tree.specs.dn_names.name.Names.{RdnSequence}
use Rattle.dir_tree.specs.dn_names.Printing.{print_name}
use Rattle.dir_tree.specs.declared.number.EntryNo.{EntryNo}
use Rattle.ldap_msg.specs.declared.operations.ResultCode.TheVariants as code
use Rattle.ldap_msg.specs.declared.kinds.SearchRequest.{SearchRequest}
use Rattle.ldap_msg.specs.declared.kinds.Reply.TheVariants as reply
use Rattle.ldap_msg.specs.declared.operations.Ending.TheVariants as ending
use Rattle.page_core.specs.read_model.Views.{View, discloses, no_such_object}
use Rattle.page_core.specs.read_model.RootEntry.{root_replies}
use Rattle.page_core.specs.read_model.Selecting.{selected}
use Rattle.page_core.specs.read_model.SearchReplies.{replies_at}
use Rattle.page_core.specs.declared.page.Page.{Page}
use Rattle.page_core.specs.Starts.{start_of, is_after}
use Rattle.page_core.specs.Pages.{Paged, unpaged, ended, last_name, page_of_rows, unlimited, is_success}
use Rattle.op_read.specs.declared.sending.Found.{Found}
use Rattle.op_read.specs.declared.sending.Found.TheVariants.{Nothing, Some as FoundSome, TooMany}
use Rattle.op_read.specs.Sending.{is_filled}

-- the end of a page alone, with this cookie
abbrev pub ending_page : List ℕ → Paged
ending_page cookie = record { replies = []; cookie = Some cookie }

-- a page of no entries, which ends the listing
abbrev pub empty_page : Paged
empty_page = ending_page []

-- the whole search succeeds: the base may be known of, or an entry is selected
abbrev pub is_done : View → View → RdnSequence → Bool
is_done view all base = discloses view base || is_filled all

-- a page behind whose name no entry is
abbrev pub page_of_none : View → View → RdnSequence → Paged
page_of_none view all base =
    if is_done view all base then empty_page else unpaged (reply.Ended ending.Done (no_such_object view base) ∷ [])

-- how a page ends, by what was found for it
abbrev pub page_ending : (Option EntryNo → View) → View → View → RdnSequence → Found → Paged
page_ending at view all base Nothing = page_of_none view all base
page_ending at view all base FoundSome = empty_page
page_ending at view all base (TooMany last) = ending_page (print_name (last_name (at last)))

-- a page behind a name, of a base that is a name
abbrev pub page_at : View → SearchRequest → Option Bool → RdnSequence → ℕ → RdnSequence → Paged
page_at view request subentries base size after =
    if list_any is_success (replies_at view (unlimited request) subentries base)
    then page_of_rows request size (filter (is_after after) (selected view request subentries base))
    else unpaged (replies_at view (unlimited request) subentries base)

-- with a size
abbrev pub page_sized_at : View → SearchRequest → Option Bool → RdnSequence → ℕ → RdnSequence → Paged
page_sized_at view request subentries base size after =
    if size == 0 then empty_page else page_at view request subentries base size after

-- with a cookie that says a name, or none
abbrev pub page_from_at : View → SearchRequest → Option Bool → RdnSequence → ℕ → Option RdnSequence → Paged
page_from_at view request subentries base size None = ended code.UnwillingToPerform
page_from_at view request subentries base size (Some after) = page_sized_at view request subentries base size after

-- a search of a name, which may be the empty one
abbrev pub page_named : View → SearchRequest → Option Bool → Page → RdnSequence → Paged
page_named view request subentries page [] = unpaged (root_replies view request subentries)
page_named view request subentries page (rdn ∷ rdns) =
    page_from_at view request subentries (rdn ∷ rdns) page.size (start_of page.cookie)
