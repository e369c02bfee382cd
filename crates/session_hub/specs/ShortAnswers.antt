-- Which answers are read again: those each of whose messages has a content whose length can be written (X.690 8.1.3).
use Rattle.std.specs.Prelude.{ℕ, List, Option, Some, None}
use Rattle.std.specs.List.{AllByRecursion}
use Rattle.session_model.specs.ldap_msg.declared.kinds.Message.{Message}
use Rattle.session_model.specs.ldap_msg.reading.Messages.{message_of}
use Rattle.session_model.specs.AnsweredMessages.{AnsweredMessage, answered_messages, answered_of_held}
use Rattle.session_model.specs.Kept.{Held}
use Rattle.session_model.specs.Run.{Step}
use Rattle.op_read.specs.Short.{IsShortPage}
use Rattle.session_hub.specs.Parties.{DirectoryEntries, Requester}
use Rattle.session_hub.specs.Terms.{Terms}
use Rattle.session_hub.specs.Limiting.{limited_read}
use Rattle.session_hub.specs.Answering.{rules, Operated, answered}

-- so are the replies of an operation to the message of this number, with the end of a page behind them, if there is one
abbrev pub AreShortReplies : ℕ → Operated → Type 0
AreShortReplies id came = IsShortPage id (record { replies = came.replies; cookie = came.cookie })

-- so is the answer to a message; octets that are none get the notice of disconnection, which is one
abbrev pub IsShortAnswer : DirectoryEntries → Requester → Option Message → Type 0
IsShortAnswer entries who None = Unit {0}
IsShortAnswer entries who (Some message) = AreShortReplies message.id (answered entries who message.controls message.request)

-- so is the answer to the octets of a message, on these terms
unfoldable pub IsAnsweredShort : Terms → AnsweredMessage DirectoryEntries Requester → Type 0
IsAnsweredShort terms asked = IsShortAnswer asked.tree asked.who (limited_read terms.limit (message_of asked.message))

-- so are the answers to messages in their order, up to one that closes the connection
abbrev pub AreAnsweredShort : Terms → DirectoryEntries → Requester → List (List ℕ) → Type 0
AreAnsweredShort terms entries who messages = AllByRecursion (IsAnsweredShort terms) (answered_messages (rules terms) entries who messages)

-- so are those that a step answers
abbrev pub StepsShort : Terms → Step → Held DirectoryEntries Requester → Type 0
StepsShort terms next old = AllByRecursion (IsAnsweredShort terms) (answered_of_held (rules terms) old next)
