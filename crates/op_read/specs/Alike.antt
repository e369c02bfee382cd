-- What is answered alike over twins: trees that differ only in a subtree of which the requester sees nothing.
use Rattle.std.specs.Prelude.{◌≡◌, ℕ, Bool, List, ◌++◌, Option}
use Rattle.dir_tree.specs.dn_names.name.Names.{RdnSequence}
use Rattle.dir_tree.specs.Entry.{EntryInformation}
use Rattle.acdf_filters.specs.declared.asking.Requester.{Requester}
use Rattle.ldap_msg.specs.declared.kinds.LdapResult.{LdapResult}
use Rattle.ldap_msg.specs.declared.kinds.SearchRequest.{SearchRequest}
use Rattle.ldap_msg.specs.declared.kinds.CompareRequest.{CompareRequest}
use Rattle.page_core.specs.read_model.Views.{view_of}
use Rattle.page_core.specs.read_model.SearchReplies.{search_replies, replies_octets}
use Rattle.page_core.specs.read_model.CompareReplies.{compare_result}
use Rattle.page_core.specs.Pages.{page_replies, paged_octets}
use Rattle.page_core.specs.declared.page.Page.{Page}
use Rattle.twin_laws.specs.Twins.{AreTwins}

-- what was appended is what is sent over any twin of these entries
unfoldable pub SendsAlike : Requester → List EntryInformation → ℕ → SearchRequest → Option Bool → List ℕ → List ℕ → Type 0
SendsAlike who entries id request subentries old new =
    (other : List EntryInformation) (top : RdnSequence) → AreTwins who entries other top
    → new ≡ old ++ replies_octets id (search_replies (view_of other who) request subentries)

-- so of a page
unfoldable pub SendsPageAlike : Requester → List EntryInformation → ℕ → SearchRequest → Option Bool → Page → List ℕ → List ℕ → Type 0
SendsPageAlike who entries id request subentries page old new =
    (other : List EntryInformation) (top : RdnSequence) → AreTwins who entries other top
    → new ≡ old ++ paged_octets id (page_replies (view_of other who) request subentries page)

-- the result is that over any twin of these entries
unfoldable pub ComparesAlike : Requester → List EntryInformation → CompareRequest → LdapResult → Type 0
ComparesAlike who entries request found =
    (other : List EntryInformation) (top : RdnSequence) → AreTwins who entries other top → found ≡ compare_result (view_of other who) request
