-- The connection of a sample (RFC 4511): it opens, binds as nobody, and searches for each person by name.
use Rattle.std.specs.Prelude.{ℕ, zero, suc, ◌+◌, false, List, [], ◌∷◌, ◌++◌, codes}
use Rattle.script_text.specs.declared.event.ScriptEvent.{ScriptEvent}
use Rattle.script_text.specs.declared.event.ScriptEvent.TheVariants as event
use Rattle.ldap_msg.specs.ldap_filter.filter.Filters.Filter.{Present}
use Rattle.ldap_msg.specs.declared.kinds.Message.{Message}
use Rattle.ldap_msg.specs.declared.kinds.Auth.TheVariants as auth
use Rattle.ldap_msg.specs.declared.kinds.Request.TheVariants as request
use Rattle.ldap_msg.specs.declared.kinds.SearchScope.TheVariants.{BaseObject}
use Rattle.ldap_msg.specs.reading.Messages.{request_octets}
use Rattle.sample_input.specs.SampleFile.{person_name}

-- the bind as nobody (4.2), message 1
abbrev pub sample_bind : Message
sample_bind = record { id = 1; request = request.Bind (record { version = 3; name = []; auth = auth.Simple [] }); controls = [] }

-- the search for a person (4.5.1): its entry alone, if it has an objectClass, with all its user attributes; its message has
-- the number after the person's
abbrev pub sample_search : ℕ → Message
sample_search number = record {
  id = number + 1;
  request = request.Search (record { base = person_name number; scope = BaseObject; size = 0; kinds_only = false; filter = Present (codes "objectClass"); selection = [] });
  controls = [];
}

-- the connection's events for so many persons, with numbers from 1 on: each message comes in an event of its own
unfoldable pub sample_events : ℕ → List ScriptEvent
sample_events zero = event.Opened 1 ∷ event.Bytes 1 (request_octets sample_bind) ∷ []
sample_events (suc count) = sample_events count ++ event.Bytes 1 (request_octets (sample_search (suc count))) ∷ []
