-- A message that is not due leaves the tree, and one of the connection's own its requester too.
use Rattle.std.proofs.Common.{◌≡◌, if◌then◌else◌, ℕ, Bool, true, false, List, Option, Some, None, refl}
use Rattle.std.specs.Prelude.{option_and_then}
use Rattle.std.specs.Option.{option_map_or}
use Rattle.dir_tree.specs.dn_names.name.Names.{RdnSequence}
use Rattle.session_hub.specs.session_model.ldap_msg.declared.kinds.Control.{Control}
use Rattle.session_hub.specs.session_model.ldap_msg.declared.kinds.Message.{Message}
use Rattle.session_hub.specs.session_model.ldap_msg.declared.kinds.Request.{Request}
use Rattle.session_hub.specs.session_model.ldap_msg.declared.kinds.Request.TheVariants as request
use Rattle.session_hub.specs.session_model.ldap_msg.reading.Messages.{message_of}
use Rattle.session_hub.specs.Parties.{DirectoryEntries, Requester}
use Rattle.session_hub.specs.declared.bounds.Terms.{Terms}
use Rattle.session_hub.specs.Controls.{is_refused}
use Rattle.session_hub.specs.Limiting.{limited, limited_request, limited_read}
use Rattle.session_hub.specs.Answering.{Operated, asking, refused, operated, answered, answer_read, rules}
use Rattle.hush_laws.specs.Requests.{failing_asked, failing_request}
use Rattle.hush_looks.specs.Due.{is_due_asked, is_due}

-- of two operations one, whichever a control leaves
either_tree : (refuses : Bool) (one other : Operated) (tree : DirectoryEntries) → one.entries ≡ tree → other.entries ≡ tree → (if refuses then one else other).entries ≡ tree
either_tree true one other tree first second = first
either_tree false one other tree first second = second

either_who : (refuses : Bool) (one other : Operated) (who : Requester) → one.who ≡ who → other.who ≡ who → (if refuses then one else other).who ≡ who
either_who true one other who first second = first
either_who false one other who first second = second

-- the tree, row by row
asked-tree : (limit : ℕ) (own : Bool) (tree : DirectoryEntries) (who : Requester) (controls : List Control) (asked : Request)
    → is_due_asked own asked ≡ false → (answered tree who controls (limited_request limit asked)).entries ≡ tree
asked-tree limit own tree who controls (request.Bind bind) none =
    let now = request.Bind bind in
    either_tree (is_refused now controls) (refused tree (asking who now) now) (operated tree (asking who now) controls now) tree refl refl
asked-tree limit own tree who controls request.Unbind none =
    either_tree (is_refused request.Unbind controls) (refused tree who request.Unbind) (operated tree who controls request.Unbind) tree refl refl
asked-tree limit own tree who controls (request.Search search) none =
    let now = request.Search (limited limit search) in
    either_tree (is_refused now controls) (refused tree who now) (operated tree who controls now) tree refl refl
asked-tree limit own tree who controls (request.Update update) none = absurd cc
asked-tree limit own tree who controls (request.Compare compare) none =
    let now = request.Compare compare in
    either_tree (is_refused now controls) (refused tree who now) (operated tree who controls now) tree refl refl
asked-tree limit own tree who controls (request.Abandon id) none =
    let now = request.Abandon id in
    either_tree (is_refused now controls) (refused tree who now) (operated tree who controls now) tree refl refl
asked-tree limit own tree who controls (request.Extended name value) none =
    let now = request.Extended name value in
    either_tree (is_refused now controls) (refused tree who now) (operated tree who controls now) tree refl refl

-- the requester, row by row
asked-who : (limit : ℕ) (tree : DirectoryEntries) (who : Requester) (controls : List Control) (asked : Request)
    → is_due_asked true asked ≡ false → (answered tree who controls (limited_request limit asked)).who ≡ who
asked-who limit tree who controls (request.Bind bind) none = absurd cc
asked-who limit tree who controls request.Unbind none =
    either_who (is_refused request.Unbind controls) (refused tree who request.Unbind) (operated tree who controls request.Unbind) who refl refl
asked-who limit tree who controls (request.Search search) none =
    let now = request.Search (limited limit search) in
    either_who (is_refused now controls) (refused tree who now) (operated tree who controls now) who refl refl
asked-who limit tree who controls (request.Update update) none = absurd cc
asked-who limit tree who controls (request.Compare compare) none =
    let now = request.Compare compare in
    either_who (is_refused now controls) (refused tree who now) (operated tree who controls now) who refl refl
asked-who limit tree who controls (request.Abandon id) none =
    let now = request.Abandon id in
    either_who (is_refused now controls) (refused tree who now) (operated tree who controls now) who refl refl
asked-who limit tree who controls (request.Extended name value) none =
    let now = request.Extended name value in
    either_who (is_refused now controls) (refused tree who now) (operated tree who controls now) who refl refl

-- no part forbids one of the connection's own, row by row
asked-none : (top : RdnSequence) (asked : Request) → is_due_asked true asked ≡ false → failing_asked top asked ≡ None
asked-none top (request.Bind bind) none = absurd cc
asked-none top request.Unbind none = refl
asked-none top (request.Search search) none = refl
asked-none top (request.Update update) none = absurd cc
asked-none top (request.Compare compare) none = refl
asked-none top (request.Abandon id) none = refl
asked-none top (request.Extended name value) none = refl

-- so of what octets are read as
read-tree : (keeps : Bool) (limit : ℕ) (own : Bool) (tree : DirectoryEntries) (who : Requester) (read : Option Message)
    → option_map_or (λ message. is_due_asked own message.request) read false ≡ false → (answer_read keeps tree who (limited_read limit read)).tree ≡ tree
read-tree keeps limit own tree who None none = refl
read-tree keeps limit own tree who (Some message) none = asked-tree limit own tree who message.controls message.request none

read-who : (keeps : Bool) (limit : ℕ) (tree : DirectoryEntries) (who : Requester) (read : Option Message)
    → option_map_or (λ message. is_due_asked true message.request) read false ≡ false → (answer_read keeps tree who (limited_read limit read)).who ≡ who
read-who keeps limit tree who None none = refl
read-who keeps limit tree who (Some message) none = asked-who limit tree who message.controls message.request none

read-none : (top : RdnSequence) (read : Option Message) → option_map_or (λ message. is_due_asked true message.request) read false ≡ false
    → option_and_then (λ message. failing_asked top message.request) read ≡ None
read-none top None none = refl
read-none top (Some message) none = asked-none top message.request none

pub answer-tree : (terms : Terms) (own : Bool) (tree : DirectoryEntries) (who : Requester) (octets : List ℕ)
    → is_due own octets ≡ false → ((rules terms).answer tree who octets).tree ≡ tree
unfolding rules
answer-tree terms own tree who octets none = read-tree terms.keeps terms.limit own tree who (message_of octets) none

pub answer-who : (terms : Terms) (tree : DirectoryEntries) (who : Requester) (octets : List ℕ)
    → is_due true octets ≡ false → ((rules terms).answer tree who octets).who ≡ who
unfolding rules
answer-who terms tree who octets none = read-who terms.keeps terms.limit tree who (message_of octets) none

pub request-none : (top : RdnSequence) (octets : List ℕ) → is_due true octets ≡ false → failing_request top octets ≡ None
request-none top octets none = read-none top (message_of octets) none
