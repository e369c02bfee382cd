-- How many entries were sent among replies, and how many replies say noSuchObject (RFC 4511 4.1.9, 4.5.2).
use Rattle.std.specs.Prelude.{ℕ, Bool, true, false, ◌==◌, List, count_by}
use Rattle.std.specs.Option.{option_map_or}
use Rattle.ldap_msg.specs.declared.kinds.LdapResult.{LdapResult}
use Rattle.ldap_msg.specs.declared.kinds.Reply.{Reply}
use Rattle.ldap_msg.specs.declared.kinds.Reply.TheVariants as reply
use Rattle.ldap_msg.specs.declared.operations.ResultCode.TheVariants as code
use Rattle.ldap_msg.specs.operations.ResultCodes.{code_number}
use Rattle.ldap_msg.specs.Streams.{whole, whole_of}
use Rattle.ldap_msg.specs.Replies.{reply_of}

-- the reply is an entry of a search
abbrev pub is_entry : Reply → Bool
is_entry (reply.Entry name attributes) = true
is_entry (reply.Ended ending result) = false
is_entry (reply.Extended result name value) = false

-- the result has the code noSuchObject
abbrev pub is_absent : LdapResult → Bool
is_absent result = code_number result.code == code_number code.NoSuchObject

-- the reply is such a result
abbrev pub is_hidden : Reply → Bool
is_hidden (reply.Entry name attributes) = false
is_hidden (reply.Ended ending result) = is_absent result
is_hidden (reply.Extended result name value) = is_absent result

-- the octets of one message are those of such a reply
abbrev pub says_such : (Reply → Bool) → List ℕ → Bool
says_such is_such message = option_map_or (λ answer. is_such answer.1) (reply_of message) false

-- how many of the messages of a stream are such replies
abbrev pub such_in : (Reply → Bool) → List ℕ → ℕ
such_in is_such stream = count_by (says_such is_such) (whole stream)

-- the entries sent
unfoldable pub found_in : List ℕ → ℕ
found_in stream = such_in is_entry stream

-- the replies that say that there is no such object
unfoldable pub hidden_in : List ℕ → ℕ
hidden_in stream = such_in is_hidden stream

-- for the inside of the crate: the same of at most so many messages
abbrev pub such_of : (Reply → Bool) → ℕ → List ℕ → ℕ
such_of is_such most stream = count_by (says_such is_such) (whole_of most stream)
