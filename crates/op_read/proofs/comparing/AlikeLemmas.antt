-- What is sent over a tree is sent over each of its twins.
use Rattle.std.proofs.Common.{◌≡◌, ◌∙◌, ap, ℕ, Bool, List, ◌++◌, Option}
use Rattle.dir_tree.specs.Entry.{EntryInformation}
use Rattle.acdf_filters.specs.declared.asking.Requester.{Requester}
use Rattle.ldap_msg.specs.declared.kinds.LdapResult.{LdapResult}
use Rattle.ldap_msg.specs.declared.kinds.SearchRequest.{SearchRequest}
use Rattle.ldap_msg.specs.declared.kinds.CompareRequest.{CompareRequest}
use Rattle.ldap_msg.specs.declared.kinds.Reply.{Reply}
use Rattle.page_core.specs.read_model.Views.{view_of}
use Rattle.page_core.specs.read_model.SearchReplies.{search_replies, replies_octets}
use Rattle.page_core.specs.read_model.CompareReplies.{compare_result}
use Rattle.twin_laws.proofs.Theorems.{search_replies-twins, compare_result-twins}
use Rattle.op_read.specs.Alike.{SendsAlike, ComparesAlike}

pub sends_alike : (who : Requester) (entries : List EntryInformation) (id : ℕ) (request : SearchRequest) (subentries : Option Bool) (old new : List ℕ)
    → new ≡ old ++ replies_octets id (search_replies (view_of entries who) request subentries)
    → SendsAlike who entries id request subentries old new
unfolding SendsAlike
sends_alike who entries id request subentries old new sent other top twins =
    sent ∙ ap (λ (replies : List Reply). old ++ replies_octets id replies) (search_replies-twins who entries other top twins request subentries)

pub compares_alike : (who : Requester) (entries : List EntryInformation) (request : CompareRequest) (found : LdapResult)
    → found ≡ compare_result (view_of entries who) request → ComparesAlike who entries request found
unfolding ComparesAlike
compares_alike who entries request found is other top twins = is ∙ compare_result-twins who entries other top twins request
