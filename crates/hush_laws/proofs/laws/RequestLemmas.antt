-- A request reads outside exactly where no part forbids it.
use Rattle.std.proofs.Common.{◌≡◌, ℕ, Bool, true, false, not, ◌||◌, List, [], ◌∷◌, Option, Some, None, refl, sym, ◌∙◌}
use Rattle.std.specs.Prelude.{option_and_then}
use Rattle.std.specs.Option.{option_map_or}
use Rattle.dir_tree.specs.dn_names.name.Names.{RdnSequence}
use Rattle.session_hub.specs.session_model.ldap_msg.declared.kinds.Message.{Message}
use Rattle.session_hub.specs.session_model.ldap_msg.declared.kinds.Request.{Request}
use Rattle.session_hub.specs.session_model.ldap_msg.declared.kinds.Request.TheVariants as request
use Rattle.session_hub.specs.session_model.ldap_msg.reading.Messages.{message_of}
use Rattle.session_hub.specs.Twins.{reads_outside}
use Rattle.hush_laws.specs.declared.part.Part.TheVariants.{Change, Bind}
use Rattle.hush_laws.specs.Requests.{is_change, binds_within, fails_asked, failing_asked, failing_request}
use Rattle.hush_laws.specs.Hush.{IsReadOutside}
use Rattle.hush_laws.proofs.laws.TwinLemmas.{not_found}

-- row by row
pub reads_outside-is : (top : RdnSequence) (asked : Request) → reads_outside top asked ≡ not (is_change asked || binds_within top asked)
reads_outside-is top (request.Bind bind) = refl
reads_outside-is top request.Unbind = refl
reads_outside-is top (request.Search search) = refl
reads_outside-is top (request.Update update) = refl
reads_outside-is top (request.Compare compare) = refl
reads_outside-is top (request.Abandon id) = refl
reads_outside-is top (request.Extended name value) = refl

pub outside-from_none : (top : RdnSequence) (asked : Request) → failing_asked top asked ≡ None → reads_outside top asked ≡ true
outside-from_none top asked none =
    let change = not_found (fails_asked top asked) Change (Bind ∷ []) none in
    let bind = not_found (fails_asked top asked) Bind [] change.1 in
    reads_outside-is top asked ∙ rw (change.0, bind.0) refl

pub none-from_outside : (top : RdnSequence) (asked : Request) → reads_outside top asked ≡ true → failing_asked top asked ≡ None
none-from_outside top asked outside = by (is_change asked) (binds_within top asked) refl refl (sym (reads_outside-is top asked) ∙ outside)
  where
    by : (change bind : Bool) → is_change asked ≡ change → binds_within top asked ≡ bind → not (change || bind) ≡ true → failing_asked top asked ≡ None
    by true bind first second is = absurd cc
    by false true first second is = absurd cc
    by false false first second is = rw (first, second) refl

-- so of what octets are read as
read-outside : (top : RdnSequence) (read : Option Message) → option_and_then (λ message. failing_asked top message.request) read ≡ None
    → option_map_or (λ message. reads_outside top message.request) read true ≡ true
read-outside top None none = refl
read-outside top (Some message) none = outside-from_none top message.request none

outside-read : (top : RdnSequence) (read : Option Message) → option_map_or (λ message. reads_outside top message.request) read true ≡ true
    → option_and_then (λ message. failing_asked top message.request) read ≡ None
outside-read top None outside = refl
outside-read top (Some message) outside = none-from_outside top message.request outside

pub message-outside : (top : RdnSequence) (octets : List ℕ) → failing_request top octets ≡ None → IsReadOutside top octets
message-outside top octets none = read-outside top (message_of octets) none

pub message-none : (top : RdnSequence) (octets : List ℕ) → IsReadOutside top octets → failing_request top octets ≡ None
message-none top octets outside = outside-read top (message_of octets) outside
