-- The request that a record asks for (RFC 4511 4.2 to 4.12).
use Rattle.std.specs.Prelude.{ℕ, not, List, [], ◌∷◌, codes, None, is_some}
use Rattle.ldap_msg.specs.declared.kinds.Auth.TheVariants.{Simple}
use Rattle.ldap_msg.specs.declared.kinds.CompareRequest.{CompareRequest}
use Rattle.ldap_msg.specs.declared.kinds.SearchRequest.{SearchRequest}
use Rattle.ldap_msg.specs.declared.kinds.Control.{Control}
use Rattle.ldap_msg.specs.declared.kinds.Message.{Message}
use Rattle.ldap_msg.specs.declared.kinds.Request.{Request}
use Rattle.ldap_msg.specs.declared.kinds.Request.TheVariants as request
use Rattle.ldap_msg.specs.declared.kinds.Update.TheVariants as update
use Rattle.ldif_records.specs.declared.types.RecordLine.{RecordLine}
use Rattle.client_core.specs.declared.words.Word.{Word}
use Rattle.client_core.specs.declared.words.Word.TheVariants as word
use Rattle.client_core.specs.Picks.{value_of, values_of, text_of, scope_named, limit_number, filter_by, subentries_control, attributes_of, changes_of}

-- a search (4.5.1)
abbrev pub search_of : List ℕ → List RecordLine → SearchRequest
search_of name lines = record {
  base = name;
  scope = scope_named (text_of (codes "scope") lines);
  size = limit_number (text_of (codes "limit") lines);
  kinds_only = is_some (value_of (codes "only") lines);
  filter = filter_by (value_of (codes "filter") lines);
  selection = values_of (codes "select") lines;
}

-- a compare (4.10) with the type and the value of a line
abbrev pub asserted_by : List ℕ → RecordLine → CompareRequest
asserted_by name line = record { name = name; kind = line.kind; value = line.value }

-- a compare with those of the first line
abbrev pub compare_of : List ℕ → List RecordLine → CompareRequest
compare_of name [] = record { name = name; kind = []; value = [] }
compare_of name (line ∷ lines) = asserted_by name line

-- a delete (4.8)
abbrev pub delete_of : List ℕ → Request
delete_of name = request.Update (update.Delete (record { name = name }))

-- the question who the session is (RFC 4532)
abbrev pub who_am_i : Request
who_am_i = request.Extended (codes "1.3.6.1.4.1.4203.1.11.3") None

-- the request of an operation on the target, by the lines behind `do`
abbrev pub request_of : Word → List ℕ → List RecordLine → Request
request_of word.Bind name lines = request.Bind (record { version = 3; name = name; auth = Simple (text_of (codes "password") lines) })
request_of word.Search name lines = request.Search (search_of name lines)
request_of word.Compare name lines = request.Compare (compare_of name lines)
request_of word.Add name lines = request.Update (update.Add (record { name = name; attributes = attributes_of lines }))
request_of word.Modify name lines = request.Update (update.Modify (record { name = name; changes = changes_of lines }))
request_of word.Rename name lines = request.Update (update.Rename (record {
  name = name;
  new_rdn = text_of (codes "newrdn") lines;
  delete_old = not (is_some (value_of (codes "keep") lines));
  superior = value_of (codes "newsuperior") lines;
}))
request_of word.Delete name lines = delete_of name
request_of word.WhoAmI name lines = who_am_i
request_of word.Unbind name lines = request.Unbind

-- its controls
abbrev pub controls_of : Word → List RecordLine → List Control
controls_of word.Bind lines = []
controls_of word.Search lines = subentries_control (value_of (codes "subentries") lines)
controls_of word.Compare lines = []
controls_of word.Add lines = []
controls_of word.Modify lines = []
controls_of word.Rename lines = []
controls_of word.Delete lines = []
controls_of word.WhoAmI lines = []
controls_of word.Unbind lines = []

-- the message of a number
abbrev pub message_of : ℕ → Word → List ℕ → List RecordLine → Message
message_of number word name lines = record { id = number; request = request_of word name lines; controls = controls_of word lines }
