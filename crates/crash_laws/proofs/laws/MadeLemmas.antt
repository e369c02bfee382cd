-- What an answer makes of the entries, and what it has of records, is one accepted change, or none.
use Rattle.std.proofs.Common.{◌≡◌, ℕ, Bool, true, false, List, [], ◌∷◌, Option, Some, None, refl, sym, ap, subst, ◌∙◌}
use Rattle.std.specs.Prelude.{if◌then◌else◌}
use Rattle.std.specs.List.{flat_map}
use Rattle.std.proofs.lemmas.List.{append-nil}
use Rattle.session_model.specs.ber_elements.Laws.{AreOctets}
use Rattle.session_model.specs.ldap_msg.declared.kinds.Control.{Control}
use Rattle.session_model.specs.ldap_msg.declared.kinds.Message.{Message}
use Rattle.session_model.specs.ldap_msg.declared.kinds.Request.{Request}
use Rattle.session_model.specs.ldap_msg.declared.kinds.Request.TheVariants as request
use Rattle.session_model.specs.ldap_msg.declared.kinds.Update.{Update}
use Rattle.session_model.specs.ldap_msg.declared.kinds.Update.TheVariants as update
use Rattle.session_model.specs.ldap_msg.reading.Messages.{message_of}
use Rattle.change_replay.specs.change_records.Written.{record_text}
use Rattle.change_replay.specs.op_add_delete.adding.Updates.{Changed, Refused, Made, left_by}
use Rattle.change_replay.specs.Accepted.{AcceptedChange, outcome, requests_of, left_after, AreAccepted}
use Rattle.change_replay.specs.Laws.{IsOfOctets, AreOfOctets}
use Rattle.session_hub.specs.Parties.{DirectoryEntries, Requester}
use Rattle.session_hub.specs.declared.bounds.Terms.{Terms}
use Rattle.session_hub.specs.Controls.{is_refused}
use Rattle.session_hub.specs.Limiting.{limited_request, limited_read}
use Rattle.session_hub.specs.Answering.{Operated, recorded, asking, operated, refused, answered, answer_read, rules}
use Rattle.crash_laws.proofs.laws.AskedLemmas.{message-octets}

-- accepted changes, of which these are the records, leave these entries
pub record IsMade (entries : DirectoryEntries) (records : List ℕ) (left : DirectoryEntries) : Type 0 where
  pub made : List AcceptedChange
  pub accepted : AreAccepted entries made
  pub octets : AreOfOctets made
  pub records_are : records ≡ flat_map record_text (requests_of made)
  pub left_is : left ≡ left_after entries made

nothing_made : (entries : DirectoryEntries) → IsMade entries [] entries
unfolding left_after
nothing_made entries = record { made = []; accepted = tt; octets = tt; records_are = refl; left_is = refl }

one_made : (entries : DirectoryEntries) (who : Requester) (asked : Request) (left : DirectoryEntries) → IsOfOctets asked → outcome entries who asked ≡ Made left
    → IsMade entries (record_text asked) left
unfolding left_after
one_made entries who asked left octets is =
    let same : left_by entries (outcome entries who asked) ≡ left = ap (left_by entries) is in
    record {
      made = record { who = who; request = asked } ∷ [];
      accepted = (record { accepted = is ∙ ap Made (sym same) }, tt);
      octets = (octets, tt);
      records_are = sym (append-nil (record_text asked));
      left_is = sym same;
    }

-- a change, whether it is refused or made
changed_made : (entries : DirectoryEntries) (who : Requester) (asked : Request) (changed : Changed) → outcome entries who asked ≡ changed → IsOfOctets asked
    → IsMade entries (recorded changed asked) (left_by entries changed)
changed_made entries who asked (Refused refusal) is octets = nothing_made entries
changed_made entries who asked (Made left) is octets = one_made entries who asked left octets is

-- a search with the server's limit asks with the octets that it had
limited_octets : (limit : ℕ) (asked : Request) → IsOfOctets asked → IsOfOctets (limited_request limit asked)
limited_octets limit (request.Bind bind) octets = octets
limited_octets limit request.Unbind octets = octets
limited_octets limit (request.Search search) octets = octets
limited_octets limit (request.Update update) octets = octets
limited_octets limit (request.Compare compare) octets = octets
limited_octets limit (request.Abandon id) octets = octets
limited_octets limit (request.Extended name value) octets = octets

operated_made : (entries : DirectoryEntries) (who : Requester) (controls : List Control) (asked : Request) → IsOfOctets asked
    → let came = operated entries who controls asked in IsMade entries came.changes came.entries
operated_made entries who controls (request.Bind bind) octets = nothing_made entries
operated_made entries who controls request.Unbind octets = nothing_made entries
operated_made entries who controls (request.Search search) octets = nothing_made entries
operated_made entries who controls (request.Update update) octets =
    changed_made entries who (request.Update update) (outcome entries who (request.Update update)) refl octets
operated_made entries who controls (request.Compare compare) octets = nothing_made entries
operated_made entries who controls (request.Abandon id) octets = nothing_made entries
operated_made entries who controls (request.Extended name value) octets = nothing_made entries

-- by whether a control refuses it
answered_made : (entries : DirectoryEntries) (who : Requester) (controls : List Control) (asked : Request) → IsOfOctets asked
    → let came = answered entries who controls asked in IsMade entries came.changes came.entries
answered_made entries who controls asked octets =
    let first = refused entries (asking who asked) asked in
    let other = operated entries (asking who asked) controls asked in
    by_test (is_refused asked controls) first other (nothing_made entries) (operated_made entries (asking who asked) controls asked octets)
  where
    by_test : (test : Bool) (first other : Operated) → IsMade entries first.changes first.entries → IsMade entries other.changes other.entries
        → let came = if test then first else other in IsMade entries came.changes came.entries
    by_test true first other one two = one
    by_test false first other one two = two

-- what was read, with the server's limit, where changes are kept
read_made : (limit : ℕ) (entries : DirectoryEntries) (who : Requester) (read : Option Message) → ((message : Message) → read ≡ Some message → IsOfOctets message.request)
    → let came = answer_read true entries who (limited_read limit read) in IsMade entries came.changes came.tree
read_made limit entries who None octets = nothing_made entries
read_made limit entries who (Some message) octets =
    answered_made entries who message.controls (limited_request limit message.request) (limited_octets limit message.request (octets message refl))

-- a message of octets
pub answer_made : (terms : Terms) → terms.keeps ≡ true → (entries : DirectoryEntries) (who : Requester) (message : List ℕ) → AreOctets message
    → let came = (rules terms).answer entries who message in IsMade entries came.changes came.tree
unfolding rules
answer_made terms keeps entries who message octets =
    let P : Bool → Type 0 = λ kept. let came = answer_read kept entries who (limited_read terms.limit (message_of message)) in IsMade entries came.changes came.tree in
    subst P (sym keeps) (read_made terms.limit entries who (message_of message) (λ found read. message-octets message found octets read))
