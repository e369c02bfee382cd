-- What messages whose searches and compares are granted are answered.
use Rattle.std.proofs.Common.{◌≡◌, ◌⊎◌, inl, inr, ℕ, Bool, false, List, [], ◌∷◌, Option, Some, None, refl, ap, ◌∙◌}
use Rattle.dir_tree.specs.Entry.{EntryInformation}
use Rattle.acdf_filters.specs.declared.asking.Requester.{Requester}
use Rattle.ldap_msg.specs.declared.operations.ResultCode.{ResultCode}
use Rattle.ldap_msg.specs.declared.operations.ResultCode.TheVariants as code
use Rattle.ldap_msg.specs.declared.kinds.SearchRequest.{SearchRequest}
use Rattle.ldap_msg.specs.declared.kinds.CompareRequest.{CompareRequest}
use Rattle.ldap_msg.specs.declared.kinds.Request.{Request}
use Rattle.ldap_msg.specs.declared.kinds.Request.TheVariants as request
use Rattle.ldap_msg.specs.declared.kinds.Control.{Control}
use Rattle.ldap_msg.specs.declared.kinds.Message.{Message}
use Rattle.ldap_msg.specs.declared.kinds.LdapResult.{LdapResult}
use Rattle.ldap_msg.specs.declared.kinds.Reply.{Reply}
use Rattle.ldap_msg.specs.declared.kinds.Reply.TheVariants as reply
use Rattle.ldap_msg.specs.declared.operations.Ending.TheVariants as ending
use Rattle.read_model.specs.Views.{view_of, result_of}
use Rattle.read_model.specs.SearchReplies.{search_replies, replies_octets}
use Rattle.read_model.specs.CompareReplies.{compare_result}
use Rattle.answer_laws.specs.Complete.{HasKnownBase, IsComparable, EndsWith}
use Rattle.answer_laws.proofs.laws.SearchLemmas.{search_replies-succeed}
use Rattle.answer_laws.proofs.laws.CompareLemmas.{compare_result-granted}
use Rattle.session_hub.specs.Controls.{is_refused, subentries_asked, page_asked}
use Rattle.session_hub.specs.Answering.{Operated, sent_octets, answered, answer_read}
use Rattle.answer_laws.specs.Asked.{AsksSearch, AsksCompare, IsSearchedWith, IsComparedWith}

-- the octets of what an operation comes to
abbrev octets_of : ℕ → Operated → List ℕ
octets_of id came = sent_octets id came.replies came.cookie

-- a search whose controls can be read, none of which asks for a page, is answered by its replies
searched-replies : (id : ℕ) (entries : List EntryInformation) (who : Requester) (controls : List Control) (asked : Request)
    (search : SearchRequest) (subentries : Option Bool) → asked ≡ request.Search search → is_refused asked controls ≡ false
    → subentries_asked controls ≡ Some subentries → page_asked controls ≡ Some None
    → octets_of id (answered entries who controls asked) ≡ replies_octets id (search_replies (view_of entries who) search subentries)
searched-replies id entries who controls asked search subentries e accepted readable whole =
    rw (accepted, e, readable, whole) refl

-- a compare by its result
compared-replies : (id : ℕ) (entries : List EntryInformation) (who : Requester) (controls : List Control) (asked : Request)
    (compare : CompareRequest) → asked ≡ request.Compare compare → is_refused asked controls ≡ false
    → octets_of id (answered entries who controls asked) ≡ replies_octets id (reply.Ended ending.Compare (compare_result (view_of entries who) compare) ∷ [])
compared-replies id entries who controls asked compare e accepted = rw (accepted, e) refl

-- octets of replies that end the search so
searched-with : (code : ResultCode) (id : ℕ) (octets : List ℕ) (wanted : List Reply) → octets ≡ replies_octets id wanted → EndsWith code wanted
    → IsSearchedWith code id octets
searched-with code id octets wanted e ends = record { replies = wanted; ends = ends; written = e }

pub answer_read-searched : (keeps : Bool) (entries : List EntryInformation) (who : Requester) (message : Message) (search : SearchRequest)
    → AsksSearch message search → HasKnownBase entries who search
    → (IsSearchedWith code.Success message.id (answer_read keeps entries who (Some message)).replies)
    ⊎ (IsSearchedWith code.SizeLimitExceeded message.id (answer_read keeps entries who (Some message)).replies)
answer_read-searched keeps entries who message search asks known =
    let same = searched-replies message.id entries who message.controls message.request search asks.subentries asks.asks asks.accepted asks.readable asks.whole in
    elim (search_replies-succeed entries who search asks.subentries known) [
      | inl ends ↦ inl (searched-with code.Success message.id _ _ same ends)
      | inr ends ↦ inr (searched-with code.SizeLimitExceeded message.id _ _ same ends)
    ]

-- octets of the one reply to a compare
compared-with : (code : ResultCode) (id : ℕ) (octets : List ℕ) (result : LdapResult) → octets ≡ replies_octets id (reply.Ended ending.Compare result ∷ [])
    → result ≡ result_of code → IsComparedWith code id octets
compared-with code id octets result e f = e ∙ ap (λ result. replies_octets id (reply.Ended ending.Compare result ∷ [])) f

pub answer_read-compared : (keeps : Bool) (entries : List EntryInformation) (who : Requester) (message : Message) (compare : CompareRequest)
    → AsksCompare message compare → IsComparable entries who compare
    → (IsComparedWith code.CompareTrue message.id (answer_read keeps entries who (Some message)).replies)
    ⊎ (IsComparedWith code.CompareFalse message.id (answer_read keeps entries who (Some message)).replies)
answer_read-compared keeps entries who message compare asks granted =
    let same = compared-replies message.id entries who message.controls message.request compare asks.asks asks.accepted in
    elim (compare_result-granted entries who compare granted) [
      | inl is ↦ inl (compared-with code.CompareTrue message.id _ _ same is)
      | inr is ↦ inr (compared-with code.CompareFalse message.id _ _ same is)
    ]
