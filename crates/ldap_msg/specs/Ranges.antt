-- Messages and replies that can be read again when they are written: their numbers are in the ranges of the layouts,
-- and their contents have less than 2^32 octets.
use Rattle.std.specs.Prelude.{ℕ, ◌≤◌}
use Rattle.ber_layout.specs.Layouts.{IsShort, writes}
use Rattle.ber_layout.specs.Ranges.{Within}
use Rattle.ldap_msg.specs.declared.kinds.Request.{Request}
use Rattle.ldap_msg.specs.declared.kinds.Request.TheVariants as request
use Rattle.ldap_msg.specs.declared.kinds.Message.{Message}
use Rattle.ldap_msg.specs.declared.kinds.Reply.{Reply}
use Rattle.ldap_msg.specs.declared.kinds.Update.{Update}
use Rattle.ldap_msg.specs.declared.kinds.Update.TheVariants as update
use Rattle.ldap_msg.specs.Binds.{bind_layout, bind_parts, HasTag}
use Rattle.ldap_msg.specs.Search.{search_layout, search_parts}
use Rattle.ldap_filter.specs.filter.Filters.{depth}
use Rattle.ldap_filter.specs.reading.FilterLayouts.{most_deep}
use Rattle.ldap_filter.specs.FilterSpelling.{HasParts}
use Rattle.ldap_msg.specs.Kinds.{modify_layout, modify_parts, add_layout, add_parts, rename_layout, rename_parts, compare_layout, compare_parts, extended_layout, abandon_layout}
use Rattle.ldap_msg.specs.reading.Messages.{message_layout, message_parts}
use Rattle.ldap_msg.specs.Replies.{IsShortReply}

-- the numbers of a request for a change are in the ranges of its layout
abbrev pub IsUpdateWithin : Update → Type 0
IsUpdateWithin (update.Modify modify) = Within modify_layout (modify_parts modify)
IsUpdateWithin (update.Add add) = Within add_layout (add_parts add)
IsUpdateWithin (update.Delete delete) = Unit {0}
IsUpdateWithin (update.Rename rename) = Within rename_layout (rename_parts rename)

-- the numbers of a request are in the ranges of its layout, and a bind's other method has a tag of its own
abbrev pub IsWithin : Request → Type 0
IsWithin (request.Bind bind) = Within bind_layout (bind_parts bind) × HasTag bind.auth
IsWithin request.Unbind = Unit {0}
IsWithin (request.Search search) = Within search_layout (search_parts search) × (depth search.filter ≤ most_deep) × HasParts search.filter
IsWithin (request.Update update) = IsUpdateWithin update
IsWithin (request.Compare compare) = Within compare_layout (compare_parts compare)
IsWithin (request.Abandon id) = Within abandon_layout id
IsWithin (request.Extended name value) = Within extended_layout (name, (value, tt))

-- the message can be written so that it is read again
pub record IsWritable (message : Message) : Type 0 where
  pub parts : Within message_layout (message_parts message)
  pub request : IsWithin message.request
  pub short : IsShort (writes message_layout (message_parts message))

-- the reply can be written so that it is read again: its messageID is in its range, and it is short
pub record IsWritableReply (id : ℕ) (answer : Reply) : Type 0 where
  pub most : id ≤ 2147483647
  pub short : IsShortReply id answer
