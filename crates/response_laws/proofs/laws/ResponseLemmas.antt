-- What a message that is read is answered, whatever it asks for.
use Rattle.std.proofs.Common.{◌≡◌, ℕ, Bool, List, [], ◌∷◌, ◌++◌, map, flat_map, Option, Some, None, refl, ap, ap₂, sym, ◌∙◌, subst, append-nil}
use Rattle.std.proofs.lemmas.List.Concat.{flat_map-append}
use Rattle.ldap_msg.specs.declared.operations.ResultCode.TheVariants as code
use Rattle.ldap_msg.specs.declared.operations.Response.{Response}
use Rattle.ldap_msg.specs.declared.operations.Ending.TheVariants as ending
use Rattle.ldap_msg.specs.declared.operations.Response.TheVariants as response
use Rattle.ldap_msg.specs.declared.kinds.Control.{Control}
use Rattle.ldap_msg.specs.declared.kinds.LdapResult.{LdapResult}
use Rattle.ldap_msg.specs.declared.kinds.Message.{Message}
use Rattle.ldap_msg.specs.declared.kinds.Request.{Request}
use Rattle.ldap_msg.specs.declared.kinds.Request.TheVariants as request
use Rattle.ldap_msg.specs.declared.kinds.Update.{Update}
use Rattle.ldap_msg.specs.declared.kinds.Update.TheVariants as update
use Rattle.ldap_msg.specs.declared.kinds.Reply.{Reply}
use Rattle.ldap_msg.specs.declared.kinds.SearchRequest.{SearchRequest}
use Rattle.ldap_msg.specs.Replies.{response_for, reply_octets}
use Rattle.ldap_msg.specs.reading.Messages.{message_of}
use Rattle.page_core.specs.declared.page.Page.{Page}
use Rattle.page_core.specs.Endings.{page_end}
use Rattle.read_model.specs.Views.{View, view_of, result_of}
use Rattle.read_model.specs.SearchReplies.{replies_octets}
use Rattle.session_hub.specs.Parties.{DirectoryEntries, Requester}
use Rattle.session_hub.specs.declared.bounds.Terms.{Terms}
use Rattle.session_hub.specs.Controls.{is_refused, subentries_asked, page_asked}
use Rattle.session_hub.specs.Limiting.{limited_request, limited_message, limited_read}
use Rattle.session_hub.specs.WhoAmI.{asks_who, extended_replies}
use Rattle.session_hub.specs.Answering.{Operated, ending_for, response_to, replies_in, asking, searched, refused, operated, answered, sent_octets, answer_read, rules}
use Rattle.response_laws.specs.Responses.{Plain, PageEnd, octets_of, change_kind, response_kind, EndsWithOne, AreResponses, IsAnswered}
use Rattle.response_laws.proofs.laws.SearchLemmas.{by_test, sent_by, IsDone, ended-done, search_replies-done, page_replies-done}

-- ---- the octets are those of the messages

plain-octets : (id : ℕ) (replies : List Reply) → replies_octets id replies ≡ flat_map (octets_of id) (map Plain replies)
plain-octets id [] = refl
plain-octets id (first ∷ rest) = ap (λ octets. reply_octets id first ++ octets) (plain-octets id rest)

pub sent_by-octets : (id : ℕ) (replies : List Reply) (cookie : Option (List ℕ)) → sent_octets id replies cookie ≡ flat_map (octets_of id) (sent_by replies cookie)
sent_by-octets id replies None = plain-octets id replies
sent_by-octets id replies (Some cookie) =
    ap₂ (λ one other. one ++ other) (plain-octets id replies) (sym (append-nil (page_end id cookie)))
    ∙ sym (flat_map-append (octets_of id) (map Plain replies) (PageEnd cookie ∷ []))

-- ---- the messages are responses

-- one reply of the kind
alone : (kind : Response) (reply : Reply) → response_for reply ≡ kind → EndsWithOne kind (map Plain (reply ∷ []))
alone wanted reply is = record { entries = []; last = Plain reply; are = refl; each = tt; ends = is; others_none = λ other. refl }

-- what an operation comes to answers the request
abbrev Responds : Request → Operated → Type 0
Responds asked came = AreResponses (response_kind asked) (sent_by came.replies came.cookie)

-- a change by its response
change-ends : (asked : Update) → response.Ended (ending_for asked) ≡ change_kind asked
change-ends (update.Modify modify) = refl
change-ends (update.Add add) = refl
change-ends (update.Delete delete) = refl
change-ends (update.Rename rename) = refl

-- a result as the response to a request
response-alone : (asked : Request) (result : LdapResult) → AreResponses (response_kind asked) (map Plain (replies_in (response_to asked result)))
response-alone (request.Bind bind) result = alone (response.Ended ending.Bind) _ refl
response-alone request.Unbind result = refl
response-alone (request.Search search) result = alone (response.Ended ending.Done) _ refl
response-alone (request.Update update) result = alone (change_kind update) _ (change-ends update)
response-alone (request.Compare compare) result = alone (response.Ended ending.Compare) _ refl
response-alone (request.Abandon id) result = refl
response-alone (request.Extended name value) result = alone response.Extended _ refl

-- a search, by what its controls ask for
searched-done : (view : View) (search : SearchRequest) (subentries : Option (Option Bool)) (page : Option (Option Page)) → IsDone (searched view search subentries page)
searched-done view search None page = ended-done code.ProtocolError
searched-done view search (Some subentries) None = ended-done code.ProtocolError
searched-done view search (Some subentries) (Some None) = search_replies-done view search subentries
searched-done view search (Some subentries) (Some (Some page)) = page_replies-done view search subentries page

extended-alone : (who : Requester) (name : List ℕ) (value : Option (List ℕ)) → EndsWithOne response.Extended (map Plain (extended_replies who name value))
extended-alone who name value =
    by_test (λ replies. EndsWithOne response.Extended (map Plain replies)) (asks_who name value) _ _ (alone response.Extended _ refl) (alone response.Extended _ refl)

operated-responds : (entries : DirectoryEntries) (who : Requester) (controls : List Control) (asked : Request) → Responds asked (operated entries who controls asked)
operated-responds entries who controls (request.Bind bind) = alone (response.Ended ending.Bind) _ refl
operated-responds entries who controls request.Unbind = refl
operated-responds entries who controls (request.Search search) = searched-done (view_of entries who) search (subentries_asked controls) (page_asked controls)
operated-responds entries who controls (request.Update update) = alone (change_kind update) _ (change-ends update)
operated-responds entries who controls (request.Compare compare) = alone (response.Ended ending.Compare) _ refl
operated-responds entries who controls (request.Abandon id) = refl
operated-responds entries who controls (request.Extended name value) = extended-alone who name value

pub answered-responds : (entries : DirectoryEntries) (who : Requester) (controls : List Control) (asked : Request) → Responds asked (answered entries who controls asked)
answered-responds entries who controls asked =
    by_test (Responds asked) (is_refused asked controls) (refused entries (asking who asked) asked) (operated entries (asking who asked) controls asked)
    (response-alone asked (result_of code.UnavailableCriticalExtension)) (operated-responds entries (asking who asked) controls asked)

-- ---- so each message is answered

pub message-answered : (keeps : Bool) (entries : DirectoryEntries) (who : Requester) (message : Message)
    → IsAnswered message.request message.id (answer_read keeps entries who (Some message)).replies
message-answered keeps entries who message =
    let came = answered entries who message.controls message.request in
    record {
      sent = sent_by came.replies came.cookie;
      responses = answered-responds entries who message.controls message.request;
      written = sent_by-octets message.id came.replies came.cookie;
    }

-- a limit changes nothing of the kind
pub limited-kind : (limit : ℕ) (asked : Request) → response_kind (limited_request limit asked) ≡ response_kind asked
limited-kind limit (request.Bind bind) = refl
limited-kind limit request.Unbind = refl
limited-kind limit (request.Search search) = refl
limited-kind limit (request.Update update) = refl
limited-kind limit (request.Compare compare) = refl
limited-kind limit (request.Abandon id) = refl
limited-kind limit (request.Extended name value) = refl

as_asked : (limit : ℕ) (message : Message) (octets : List ℕ) → IsAnswered (limited_request limit message.request) message.id octets → IsAnswered message.request message.id octets
as_asked limit message octets is = record {
  sent = is.sent;
  responses = subst (λ kind. AreResponses kind is.sent) (limited-kind limit message.request) is.responses;
  written = is.written;
}

pub bytes-answered : (terms : Terms) (entries : DirectoryEntries) (who : Requester) (bytes : List ℕ) (message : Message) → message_of bytes ≡ Some message
    → IsAnswered message.request message.id ((rules terms).answer entries who bytes).replies
unfolding rules
bytes-answered terms entries who bytes message read =
    subst (λ found. IsAnswered message.request message.id (answer_read terms.keeps entries who (limited_read terms.limit found)).replies) (sym read)
    (as_asked terms.limit message (answer_read terms.keeps entries who (Some (limited_message terms.limit message))).replies
    (message-answered terms.keeps entries who (limited_message terms.limit message)))
