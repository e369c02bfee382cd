-- Messages with requests that no control refuses, and the octets that answer searches and compares (RFC 4511 4.1.1, 4.1.11,
-- 4.5 and 4.10).
use Rattle.std.specs.Prelude.{◌≡◌, ℕ, Bool, false, List, [], ◌∷◌, Option, Some, None}
use Rattle.ldap_msg.specs.declared.operations.ResultCode.{ResultCode}
use Rattle.ldap_msg.specs.declared.kinds.SearchRequest.{SearchRequest}
use Rattle.ldap_msg.specs.declared.kinds.CompareRequest.{CompareRequest}
use Rattle.ldap_msg.specs.declared.kinds.Request.{Request}
use Rattle.ldap_msg.specs.declared.kinds.Request.TheVariants as request
use Rattle.ldap_msg.specs.declared.kinds.Message.{Message}
use Rattle.ldap_msg.specs.declared.kinds.Reply.{Reply}
use Rattle.ldap_msg.specs.declared.kinds.Reply.TheVariants as reply
use Rattle.ldap_msg.specs.declared.operations.Ending.TheVariants as ending
use Rattle.read_model.specs.Views.{result_of}
use Rattle.read_model.specs.SearchReplies.{replies_octets}
use Rattle.answer_laws.specs.Complete.{EndsWith}
use Rattle.session_hub.specs.Controls.{is_refused, subentries_asked, page_asked}

-- the message asks for the search: no control of it is refused, a control of subentries, if there is one, can be read, and
-- there is none of pages
pub record AsksSearch (message : Message) (search : SearchRequest) : Type 0 where
  pub asks : message.request ≡ request.Search search
  pub accepted : is_refused message.request message.controls ≡ false
  pub subentries : Option Bool
  pub readable : subentries_asked message.controls ≡ Some subentries
  pub whole : page_asked message.controls ≡ Some None

-- the message asks for the compare: no control of it is refused
pub record AsksCompare (message : Message) (compare : CompareRequest) : Type 0 where
  pub asks : message.request ≡ request.Compare compare
  pub accepted : is_refused message.request message.controls ≡ false

-- the message asks for this: no control of it is refused
pub record AsksFor (message : Message) (asked : Request) : Type 0 where
  pub asks : message.request ≡ asked
  pub accepted : is_refused message.request message.controls ≡ false

-- the octets are those of replies to the message of this number that send entries, or none, and end the search with the
-- code
pub record IsSearchedWith (code : ResultCode) (id : ℕ) (octets : List ℕ) : Type 0 where
  pub replies : List Reply
  pub ends : EndsWith code replies
  pub written : octets ≡ replies_octets id replies

-- the octets are those of one reply, which says that the compare came to the code
abbrev pub IsComparedWith : ResultCode → ℕ → List ℕ → Type 0
IsComparedWith code id octets = octets ≡ replies_octets id (reply.Ended ending.Compare (result_of code) ∷ [])
