-- What is heard over twins: two directories that differ in an ordinary subtree alone, which shows a requester nothing
-- (X.501 18, X.511 7.11).
use Rattle.std.specs.Prelude.{◌≡◌, Bool, true, false, not, Result, Ok, Err}
use Rattle.std.specs.List.{AllByRecursion}
use Rattle.std.specs.Option.{option_map_or}
use Rattle.dir_tree.specs.dn_names.name.Names.{RdnSequence}
use Rattle.dir_tree.specs.dn_names.NameOrder.{is_prefix_of}
use Rattle.dir_tree.specs.dn_names.parsing.NameText.{read_name}
use Rattle.dir_tree.specs.dn_names.declared.error.BadName.{BadName}
use Rattle.session_model.specs.ldap_msg.declared.kinds.Request.{Request}
use Rattle.session_model.specs.ldap_msg.declared.kinds.Request.TheVariants as request
use Rattle.session_model.specs.ldap_msg.reading.Messages.{message_of}
use Rattle.op_read.specs.twin_laws.Twins.{AreTwins}
use Rattle.session_model.specs.Run.{Step}
use Rattle.session_model.specs.Kept.{Held, heard}
use Rattle.session_model.specs.AnsweredMessages.{AnsweredMessage, held_over, answered_of_held}
use Rattle.session_hub.specs.Parties.{DirectoryEntries, Requester}
use Rattle.session_hub.specs.Terms.{Terms}
use Rattle.session_hub.specs.Answering.{rules}
use Rattle.session_hub.specs.hub.Following.{FollowsStep}

-- a name that was read is at or below this one
abbrev pub is_read_within : RdnSequence → Result RdnSequence BadName → Bool
is_read_within top (Err bad) = false
is_read_within top (Ok name) = is_prefix_of top name

-- a request that asks for no change of entries, and is no bind with a name at or below this one
abbrev pub reads_outside : RdnSequence → Request → Bool
reads_outside top (request.Bind bind) = not (is_read_within top (read_name bind.name))
reads_outside top request.Unbind = true
reads_outside top (request.Search search) = true
reads_outside top (request.Update update) = false
reads_outside top (request.Compare compare) = true
reads_outside top (request.Abandon id) = true
reads_outside top (request.Extended name value) = true

-- a message is answered over entries of which the others are twins for its requester, and is such a request or can't be
-- read
pub record IsOverTwins (other : DirectoryEntries) (top : RdnSequence) (asked : AnsweredMessage DirectoryEntries Requester) : Type 0 where
  pub twins : AreTwins asked.who asked.tree other top
  pub outside : option_map_or (λ message. reads_outside top message.request) (message_of asked.message) true ≡ true

-- what is held is what the step leaves over the other entries too, but for the entries, which stay; and so the step of a
-- run over the others is followed
pub record IsHeardOver (terms : Terms) (next : Step) (other : DirectoryEntries) (old new : Held DirectoryEntries Requester) : Type 0 where
  pub same : held_over other new ≡ heard (rules terms) next (held_over other old)
  pub entries : new.tree ≡ old.tree
  pub run : FollowsStep terms next (held_over other old) (held_over other new)

-- so it is over all entries and names for which each message that the step answers is answered over twins
unfoldable pub HearsAlike : Terms → Step → Held DirectoryEntries Requester → Held DirectoryEntries Requester → Type 0
HearsAlike terms next old new =
    (other : DirectoryEntries) (top : RdnSequence) → AllByRecursion (IsOverTwins other top) (answered_of_held (rules terms) old next) →
    IsHeardOver terms next other old new
