-- How this server answers each message (RFC 4511 4.1.1, 4.2 to 4.12). The rules of sessions take this, and
-- nothing else of them knows what is answered.
use Rattle.std.specs.Prelude.{ℕ, Bool, true, false, List, [], ◌∷◌, ◌++◌, Option, Some, None, if◌then◌else◌}
use Rattle.session_model.specs.ldap_msg.declared.kinds.BindRequest.{BindRequest}
use Rattle.session_model.specs.ldap_msg.declared.kinds.SearchRequest.{SearchRequest}
use Rattle.session_model.specs.ldap_msg.declared.kinds.Request.{Request}
use Rattle.session_model.specs.ldap_msg.declared.kinds.Request.TheVariants as request
use Rattle.session_model.specs.ldap_msg.declared.kinds.Update.{Update}
use Rattle.session_model.specs.ldap_msg.declared.kinds.Update.TheVariants as update
use Rattle.session_model.specs.ldap_msg.declared.kinds.Control.{Control}
use Rattle.session_model.specs.ldap_msg.declared.kinds.Message.{Message}
use Rattle.session_model.specs.ldap_msg.declared.kinds.LdapResult.{LdapResult}
use Rattle.session_model.specs.ldap_msg.declared.kinds.Reply.{Reply}
use Rattle.session_model.specs.ldap_msg.declared.kinds.Reply.TheVariants as reply
use Rattle.session_model.specs.ldap_msg.declared.operations.Ending.{Ending}
use Rattle.session_model.specs.ldap_msg.declared.operations.Ending.TheVariants as ending
use Rattle.session_model.specs.ldap_msg.declared.operations.ResultCode.{ResultCode}
use Rattle.session_model.specs.ldap_msg.declared.operations.ResultCode.TheVariants as code
use Rattle.session_model.specs.ldap_msg.reading.Messages.{message_in, message_of}
use Rattle.session_model.specs.ldap_msg.Replies.{notice_octets}
use Rattle.op_read.specs.read_model.Views.{View, view_of, result_of}
use Rattle.op_read.specs.read_model.SearchReplies.{search_replies, replies_octets}
use Rattle.op_read.specs.page_core.declared.page.Page.{Page}
use Rattle.op_read.specs.page_core.Endings.{page_end}
use Rattle.op_read.specs.page_core.Pages.{Paged, unpaged, ended, page_replies}
use Rattle.op_read.specs.read_model.CompareReplies.{compare_result}
use Rattle.op_bind.specs.Binds.{bind_answer}
use Rattle.change_laws.specs.op_add_delete.adding.Updates.{Changed, Refused, Made, left_by}
use Rattle.change_laws.specs.Updating.{updated}
use Rattle.change_records.specs.Written.{record_text}
use Rattle.session_model.specs.Rules.{Rules, Answered}
use Rattle.session_hub.specs.Parties.{DirectoryEntries, Requester, nobody}
use Rattle.session_hub.specs.Terms.{Terms}
use Rattle.session_hub.specs.Controls.{is_refused, subentries_asked, page_asked}
use Rattle.session_hub.specs.Limiting.{limited_read}
use Rattle.session_hub.specs.WhoAmI.{extended_replies}

-- the kind of the response to a request for a change
abbrev pub ending_for : Update → Ending
ending_for (update.Modify modify) = ending.Modify
ending_for (update.Add add) = ending.Add
ending_for (update.Delete delete) = ending.Delete
ending_for (update.Rename rename) = ending.Rename

-- a result as the response to a request; none to an unbind or an abandon
abbrev pub response_to : Request → LdapResult → Option Reply
response_to (request.Bind bind) result = Some (reply.Ended ending.Bind result)
response_to request.Unbind result = None
response_to (request.Search search) result = Some (reply.Ended ending.Done result)
response_to (request.Update update) result = Some (reply.Ended (ending_for update) result)
response_to (request.Compare compare) result = Some (reply.Ended ending.Compare result)
response_to (request.Abandon id) result = None
response_to (request.Extended name value) result = Some (reply.Extended result None None)

-- the replies of a response, if there is one
abbrev pub replies_in : Option Reply → List Reply
replies_in None = []
replies_in (Some response) = response ∷ []

-- a request that ends with this code and does nothing
abbrev pub ended_with : ResultCode → Request → List Reply
ended_with code asked = replies_in (response_to asked (result_of code))

-- who asks: a bind makes the requester anonymous before anything else (RFC 4513 4)
abbrev pub asking : Requester → Request → Requester
asking who (request.Bind bind) = nobody
asking who request.Unbind = who
asking who (request.Search search) = who
asking who (request.Update update) = who
asking who (request.Compare compare) = who
asking who (request.Abandon id) = who
asking who (request.Extended name value) = who

-- a search, by what its controls of subentries and of pages ask for: protocolError where either can't be read
abbrev pub searched : View → SearchRequest → Option (Option Bool) → Option (Option Page) → Paged
searched view search None page = ended code.ProtocolError
searched view search (Some subentries) None = ended code.ProtocolError
searched view search (Some subentries) (Some None) = unpaged (search_replies view search subentries)
searched view search (Some subentries) (Some (Some page)) = page_replies view search subentries page

-- what an operation comes to: the replies, the cookie of a page that ends them, the record of the change that was made, the
-- entries that it leaves, and who the requester is from then on
pub record Operated : Type 0 where
  pub replies : List Reply
  pub cookie : Option (List ℕ)
  pub changes : List ℕ
  pub entries : DirectoryEntries
  pub who : Requester

-- these replies, and the entries and the requester stay
abbrev pub replying : DirectoryEntries → Requester → List Reply → Operated
replying entries who replies = record { replies = replies; cookie = None; changes = []; entries = entries; who = who }

-- the same of the replies of a page
abbrev pub paging : DirectoryEntries → Requester → Paged → Operated
paging entries who paged = record { replies = paged.replies; cookie = paged.cookie; changes = []; entries = entries; who = who }

-- a bind over the entries
abbrev pub bound : DirectoryEntries → BindRequest → Operated
bound entries bind = record {
  replies = reply.Ended ending.Bind (result_of (bind_answer entries bind).code) ∷ [];
  cookie = None;
  changes = [];
  entries = entries;
  who = (bind_answer entries bind).who;
}

-- the result of a change: the refusal, or success where it is made
abbrev pub change_result : Changed → LdapResult
change_result (Refused refusal) = refusal
change_result (Made after) = result_of code.Success

-- the record of a change that is made (RFC 2849, ldif-change-record), and none of one that is refused
abbrev pub recorded : Changed → Request → List ℕ
recorded (Refused refusal) asked = []
recorded (Made after) asked = record_text asked

-- a change of the entries that a request asks for
abbrev pub changing : DirectoryEntries → Requester → Update → Changed → Operated
changing entries who asked changed = record {
  replies = reply.Ended (ending_for asked) (change_result changed) ∷ [];
  cookie = None;
  changes = recorded changed (request.Update asked);
  entries = left_by entries changed;
  who = who;
}

-- an operation that no control refuses: a search and a compare read what the requester sees of the entries, a change changes
-- them, and an extended operation may ask who the requester is
abbrev pub operated : DirectoryEntries → Requester → List Control → Request → Operated
operated entries who controls (request.Bind bind) = bound entries bind
operated entries who controls request.Unbind = replying entries who []
operated entries who controls (request.Search search) =
    paging entries who (searched (view_of entries who) search (subentries_asked controls) (page_asked controls))
operated entries who controls (request.Update update) = changing entries who update (updated entries who update)
operated entries who controls (request.Compare compare) =
    replying entries who (reply.Ended ending.Compare (compare_result (view_of entries who) compare) ∷ [])
operated entries who controls (request.Abandon id) = replying entries who []
operated entries who controls (request.Extended name value) = replying entries who (extended_replies who name value)

-- an operation that a control refuses, for this requester
abbrev pub refused : DirectoryEntries → Requester → Request → Operated
refused entries who asked = replying entries who (ended_with code.UnavailableCriticalExtension asked)

-- a request with its controls
abbrev pub answered : DirectoryEntries → Requester → List Control → Request → Operated
answered entries who controls asked =
    if is_refused asked controls then refused entries (asking who asked) asked else operated entries (asking who asked) controls asked

-- an unbind closes
abbrev pub is_unbind : Request → Bool
is_unbind (request.Bind bind) = false
is_unbind request.Unbind = true
is_unbind (request.Search search) = false
is_unbind (request.Update update) = false
is_unbind (request.Compare compare) = false
is_unbind (request.Abandon id) = false
is_unbind (request.Extended name value) = false

-- the written octets of replies to the message of this number, and of the end of a page behind them, if there is one
abbrev pub sent_octets : ℕ → List Reply → Option (List ℕ) → List ℕ
sent_octets id replies None = replies_octets id replies
sent_octets id replies (Some cookie) = replies_octets id replies ++ page_end id cookie

-- those of what is answered page by page
abbrev pub answer_octets : ℕ → Paged → List ℕ
answer_octets id paged = sent_octets id paged.replies paged.cookie

-- of records of changes those that are to be stored: all, where changes are kept, and else none
abbrev pub kept_changes : Bool → List ℕ → List ℕ
kept_changes keeps changes = if keeps then changes else []

-- the answer to a message, or to octets that are none, which get the notice of disconnection and close; changes are kept or not
abbrev pub answer_read : Bool → DirectoryEntries → Requester → Option Message → Answered DirectoryEntries Requester
answer_read keeps entries who None = record { replies = notice_octets; changes = []; tree = entries; who = who; closes = true }
answer_read keeps entries who (Some message) =
    let came = answered entries who message.controls message.request in
    record {
      replies = sent_octets message.id came.replies came.cookie;
      changes = kept_changes keeps came.changes;
      tree = came.entries;
      who = came.who;
      closes = is_unbind message.request;
    }

-- the answer to the message that a content says, with the server's limit on searches, where 0 is none
abbrev pub answer_to : Terms → DirectoryEntries → Requester → List ℕ → Answered DirectoryEntries Requester
answer_to terms entries who content = answer_read terms.keeps entries who (limited_read terms.limit (message_in content))

-- the rules of this server, over the entries of its directory: what was read is answered with the server's limit on searches,
-- where 0 is none, and the record of each change that is made is to be stored where changes are kept
unfoldable pub rules : Terms → Rules DirectoryEntries Requester
rules terms = record {
  nobody = nobody;
  answer = λ tree who bytes. answer_read terms.keeps tree who (limited_read terms.limit (message_of bytes));
}
