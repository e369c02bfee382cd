-- The requests of a connection by which it may tell what others did in a subtree: a table of each kind.
use Rattle.std.specs.Prelude.{ℕ, Bool, true, false, List, [], ◌∷◌, find, Option, option_and_then}
use Rattle.dir_tree.specs.dn_names.name.Names.{RdnSequence}
use Rattle.dir_tree.specs.dn_names.parsing.NameText.{read_name}
use Rattle.session_hub.specs.session_model.ldap_msg.declared.kinds.Request.{Request}
use Rattle.session_hub.specs.session_model.ldap_msg.declared.kinds.Request.TheVariants as request
use Rattle.session_hub.specs.session_model.ldap_msg.reading.Messages.{message_of}
use Rattle.session_hub.specs.Twins.{is_read_within}
use Rattle.hush_laws.specs.declared.part.Part.{Part}
use Rattle.hush_laws.specs.declared.part.Part.TheVariants.{Suffix, Others, Governs, Shown, Groups, Change, Bind, TurnedAway}

-- a request that asks for a change of entries
abbrev pub is_change : Request → Bool
is_change (request.Bind bind) = false
is_change request.Unbind = false
is_change (request.Search search) = false
is_change (request.Update update) = true
is_change (request.Compare compare) = false
is_change (request.Abandon id) = false
is_change (request.Extended name value) = false

-- a bind with a name at or below this one
abbrev pub binds_within : RdnSequence → Request → Bool
binds_within top (request.Bind bind) = is_read_within top (read_name bind.name)
binds_within top request.Unbind = false
binds_within top (request.Search search) = false
binds_within top (request.Update update) = false
binds_within top (request.Compare compare) = false
binds_within top (request.Abandon id) = false
binds_within top (request.Extended name value) = false

-- whether a part forbids the request
abbrev pub fails_asked : RdnSequence → Request → Part → Bool
fails_asked top asked Suffix = false
fails_asked top asked Others = false
fails_asked top asked Governs = false
fails_asked top asked Shown = false
fails_asked top asked Groups = false
fails_asked top asked Change = is_change asked
fails_asked top asked Bind = binds_within top asked
fails_asked top asked TurnedAway = false

-- the parts that forbid requests, in their order
abbrev pub request_parts : List Part
request_parts = Change ∷ Bind ∷ []

-- the first of them that forbids the request
abbrev pub failing_asked : RdnSequence → Request → Option Part
failing_asked top asked = find (fails_asked top asked) request_parts

-- so of a message; none forbids octets that are no message
abbrev pub failing_request : RdnSequence → List ℕ → Option Part
failing_request top octets = option_and_then (λ message. failing_asked top message.request) (message_of octets)
