-- What of an answer can be read again: the content of each of its messages has a length that can be written (X.690 8.1.3).
use Rattle.std.specs.Prelude.{◌≡◌, ℕ, List, ◌++◌, Option, Some, None}
use Rattle.std.specs.List.{AllByRecursion}
use Rattle.ldap_msg.specs.declared.kinds.Reply.{Reply}
use Rattle.ldap_msg.specs.Replies.{IsShortReply}
use Rattle.page_core.specs.read_model.SearchReplies.{replies_octets}
use Rattle.page_core.specs.Endings.{IsShortEnd}
use Rattle.page_core.specs.Pages.{Paged, paged_octets}

-- each of the replies to the message of this number has such a content
abbrev pub AreShort : ℕ → List Reply → Type 0
AreShort id replies = AllByRecursion (IsShortReply id) replies

-- so has the end of a page, if there is one
abbrev pub IsShortEnding : ℕ → Option (List ℕ) → Type 0
IsShortEnding id None = Unit {0}
IsShortEnding id (Some cookie) = IsShortEnd id cookie

-- so has all that is answered page by page
pub record IsShortPage (id : ℕ) (paged : Paged) : Type 0 where
  pub replies : AreShort id paged.replies
  pub ending : IsShortEnding id paged.cookie

-- replies to the message of this number were appended, each of them with such a content
pub record Puts (id : ℕ) (replies : List Reply) (old new : List ℕ) : Type 0 where
  pub said : new ≡ old ++ replies_octets id replies
  pub short : AreShort id replies

-- so was what is answered page by page
pub record PutsPage (id : ℕ) (paged : Paged) (old new : List ℕ) : Type 0 where
  pub said : new ≡ old ++ paged_octets id paged
  pub short : IsShortPage id paged
